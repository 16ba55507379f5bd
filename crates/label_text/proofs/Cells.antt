-- The cells of the file after the stores of its functions. Assumes nothing.
use mathlib.Core.Path.{◌≡◌, sym, ap, ◌∙◌}
use mathlib.Core.List.{List, ◌++◌, append_assoc}
use Prim.Native.Nat.{ℕ, ◌+◌, ◌-◌, ◌≤◌}
use native.Mathlib.Omega.{arith}
use borrow.Rule.Slice.PartMut.{post_of, put_mid, same_len_mid}
use lib.ListN.{length, take, drop, length-take, length-drop, length-append}
use lib.Seq.{length-take-le, take-append-add, drop_at, drop-drop, drop-append-le, take-add}
use Rattle.std.proofs.lemmas.Slice.{take-put_mid, drop-put_mid}
use Rattle.dna.specs.Text.{part}

pub length_part : (text : List ℕ) (at n : ℕ) → at + n ≤ length text → length (part text at n) ≡ n
length_part text at n h = simp (length-take, length-drop) (omega arith)

pub length_put : (at n : ℕ) (out line : List ℕ) → length line ≡ n → at + n ≤ length out
    → length (put_mid at n out line) ≡ length out
length_put at n out line e h = same_len_mid at n out line (e ∙ sym (length_part out at n h))

-- Two bytes and two more in front of others.
pub put_four : (at size : ℕ) (out mark count : List ℕ) → at + 4 ≤ length out → length mark ≡ 2 → length count ≡ 2
    → take (at + 4 + size) (put_mid (at + 2) (at + 4 - (at + 2)) (put_mid at (at + 2 - at) out mark) count)
    ≡ take at out ++ (mark ++ (count ++ part out (at + 4) size))
put_four at size out mark count h m n =
    let k : at + 4 - (at + 2) ≡ 2 = omega arith in
    let j : at + 2 - at ≡ 2 = omega arith in
    let front : take (at + 2) (put_mid at 2 out mark) ≡ take at out ++ mark =
    take-put_mid at 2 out mark (at + 2) (omega arith) (omega arith) in
    let end : at + 2 + 2 ≡ at + 4 = omega arith in
    let behind : post_of (at + 2) 2 (put_mid at 2 out mark) ≡ drop (at + 4) out =
    drop-drop 2 (at + 2) (put_mid at 2 out mark)
    ∙ rw end (drop-put_mid at 2 out mark (at + 4) (omega arith) (omega arith) m) in
    let both : List ℕ = (take at out ++ mark) ++ count in
    let size_is : at + 4 + size ≡ length both + size =
    omega (
      arith,
      length-append (take at out ++ mark) count,
      length-append (take at out) mark,
      length-take-le at out (omega arith),
    ) in
    rw (k, j, front, behind, ← append_assoc (take at out ++ mark) count (drop (at + 4) out), size_is, take-append-add)
    (simp append_assoc)

-- A part is the end of a beginning.
part_drop : (l : List ℕ) (k m : ℕ) → k ≤ length l → part l k m ≡ drop k (take (k + m) l)
part_drop l k m h = rw (take-add k m l) (sym (drop_at (take k l) (take m (drop k l)) k (length-take-le k l h)))

-- A line of n bytes put behind a label of so many letters that begins at a place: the label is longer by the line.
pub put_label : (at size n : ℕ) (out line : List ℕ) → length line ≡ n → at + size + n ≤ length out
    → part (put_mid (at + size) n out line) at (size + n) ≡ part out at size ++ line
put_label at size n out line e h =
    let all : List ℕ = put_mid (at + size) n out line in
    let m : at + (size + n) ≡ at + size + n = omega arith in
    part_drop all at (size + n) (omega (arith, length_put (at + size) n out line e h))
    ∙ ap (drop at) (rw m (take-put_mid (at + size) n out line (at + size + n) (omega arith) (omega arith)))
    ∙ drop-append-le at (take (at + size) out) line (omega (arith, length-take-le (at + size) out (omega arith)))
    ∙ ap (λ (t : List ℕ). t ++ line) (sym (part_drop out at size (omega arith)))
