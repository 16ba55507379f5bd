-- What is packed is read back. Assumes nothing.
use mathlib.Core.Path.{◌≡◌, refl, ap}
use mathlib.Core.List.{List, [], ◌∷◌, ◌++◌}
use Prim.Native.Nat.{ℕ, zero, suc, ◌+◌, ◌*◌, ◌/◌, ◌%◌, ◌^◌, ◌≤◌, ◌<◌}
use native.Mathlib.Nat.{not-suc-le-zero}
use native.Mathlib.Omega.{arith}
use borrow.Author.Tests.{le-leb, ltb-false}
use lib.Dec.{ltb}
use lib.ListN.{length, take, drop, length-append}
use lib.Seq.{take-append_seam, drop-append_seam}
use Rattle.std.specs.Prelude.{Result, Ok, Err}
use Rattle.lemmas.proofs.Tests.{choose}
use Rattle.label_file.specs.LabelFile.{holds, labels_from, file_of, two}
use Rattle.label_text.specs.Lines.{is_mixed, labels_in}
use Rattle.label_text.specs.declared.PackError.{PackError}
use Rattle.label_text.specs.Packing.{label_record, label_records, head_record, packed, Packing, pack_text}

-- Two bytes are a number below 65,536.
two_bytes_lem : (n : ℕ) → n < 65536 → n % 256 + 256 * (n / 256 % 256) ≡ n
two_bytes_lem n h = omega arith

-- Four are one below 2^32.
four_bytes : (n : ℕ) → n < 2 ^ 32
    → n % 256 + 256 * (n / 256 % 256) + 65536 * (n / 65536 % 256 + 256 * (n / 65536 / 256 % 256)) ≡ n
four_bytes n h = omega arith

module _ (K cutoff : ℕ) where
  -- Each record takes at least one turn's bytes, so that as many turns as bytes suffice.
  records_read : (labels : List (List ℕ)) (most i : ℕ) → length (label_records labels) ≤ most
      → length (label_records labels) ≤ 16384
      → labels_from K cutoff most i (label_records labels) ≡ holds K cutoff labels
  unfolding labels_from label_records
  records_read [] zero i h g = refl
  records_read [] (suc most) i h g = refl
  records_read (l ∷ ls) zero i h g = absurd (not-suc-le-zero h)
  records_read (l ∷ ls) (suc most) i h g =
      let rest = label_records ls in
      let s : List ℕ = label_record l ++ rest in
      let n : length (l ++ rest) ≡ length l + length rest = length-append l rest in
      let size : two s 2 ≡ length l = two_bytes_lem (length l) (omega arith) in
      let end : 4 + length l ≡ suc (suc (suc (suc (length l)))) = omega arith in
      let ih : labels_from K cutoff most (suc i) rest
      ≡ holds K cutoff ls = records_read ls most (suc i) (omega arith) (omega arith) in
      rw (
        size,
        end,
        le-leb 2 (length s) (omega arith),
        le-leb 4 (length s) (omega arith),
        le-leb (suc (suc (suc (suc (length l))))) (length s) (omega arith),
        take-append_seam l rest,
        drop-append_seam l rest,
        ih,
      )

  -- A label file says the labels of which it was made.
  pub read_back : (labels : List (List ℕ)) → cutoff < 2 ^ 32 → length (packed K cutoff labels) ≤ 16384
      → file_of (packed K cutoff labels) ≡ holds K cutoff labels
  unfolding file_of packed
  read_back labels c h =
      let s : List ℕ = head_record K cutoff ++ label_records labels in
      rw (
        le-leb (length s) 16384 h,
        le-leb 2 (length s) (omega arith),
        le-leb 7 (length s) (omega arith),
        four_bytes cutoff c,
      )
      (records_read labels (length s) 1 (omega arith) (omega arith))

-- The bytes that `pack` leaves in a slice say K, the cutoff and the labels of the text.
pub packed_read_back : (K cutoff : ℕ) (text slice out : List ℕ) (n : ℕ) → cutoff < 2 ^ 32
    → record { answer = Ok n; slice = out } ≡ pack_text K cutoff text slice
    → file_of (take n out) ≡ holds K cutoff (labels_in text)
unfolding pack_text
packed_read_back K cutoff text slice out n c =
    choose Says (is_mixed text) (λ _ p. refused (ap answer_in p))
    (λ _. choose Says (ltb 16384 (length file)) (λ _ p. refused (ap answer_in p))
    (λ t. choose Says (ltb (length slice) (length file)) (λ _ p. refused (ap answer_in p))
    (λ _ p. let r : ◌≡◌ {A = Result ℕ PackError} (Ok n) (Ok (length file)) = ap answer_in p in
    let e : n ≡ length file = cc in
    rw (e, ap (λ (q : Packing). q.slice) p, take-append_seam file (drop (length file) slice))
    (read_back K cutoff (labels_in text) c (ltb-false 16384 (length file) t)))))
  where
    file : List ℕ
    file = packed K cutoff (labels_in text)

    says : Type 0
    says = file_of (take n out) ≡ holds K cutoff (labels_in text)

    answer_in : Packing → Result ℕ PackError
    answer_in q = q.answer

    refused : {e : PackError} → ◌≡◌ {A = Result ℕ PackError} (Ok n) (Err e) → says
    refused r = cc

    Says : Packing → Type 0
    Says q = record { answer = Ok n; slice = out } ≡ q → says
