-- What each answer of packing has to show. Assumes nothing.
use mathlib.Core.Path.{◌≡◌, sym, ap, ap₂, subst}
use mathlib.Core.Bool.{Bool, true, false, cond}
use mathlib.Core.List.{List, []}
use Prim.Native.Nat.{ℕ, ◌≤◌, ◌<◌}
use native.Mathlib.Omega.{arith}
use borrow.Author.Tests.{lt-ltb, le-ltb}
use lib.Dec.{ltb}
use lib.ListN.{length, drop, length-append}
use Rattle.std.specs.Prelude.{Result, Ok, Err, IfOk}
use Rattle.lemmas.proofs.Tests.{choose}
use Rattle.dna.specs.Text.{over}
use Rattle.dna.specs.Answer.{gives, refuses, fill}
use Rattle.dna.specs.Calls.{Writes}
use Rattle.dna.specs.declared.NoRoom.{NoRoom}
use Rattle.dna.proofs.Answers.{ungiven}
use Rattle.label_text.specs.Lines.{is_mixed, labels_in}
use Rattle.label_text.specs.Packing.{packed, Packing, pack_text}
use Rattle.label_text.specs.declared.PackError.{PackError}
use Rattle.label_text.specs.declared.PackError.TheVariants as pack

abbrev Packs : Result ℕ PackError → List ℕ → Packing
Packs r out = record { answer = r; slice = out }

-- The answer of packing that a copy into the slice comes to.
abbrev pub packed_by : Result ℕ NoRoom → Result ℕ PackError
packed_by (Ok n) = Ok n
packed_by (Err e) = Err pack.NoRoom

-- A file copied into the slice, or left out where it does not fit, as t tells.
packs_by : (file slice : List ℕ) (t : Bool) (r : Result ℕ NoRoom) (out : List ℕ)
    → Writes r out (cond t (record { answer = refuses 9 []; slice = slice })
    (record { answer = gives (length file); slice = over file slice }))
    → Packs (packed_by r) out ≡ cond t (Packs (Err pack.NoRoom) slice) (Packs (Ok (length file)) (over file slice))
packs_by file slice true (Ok n) out w = ungiven n 9 [] w.answer
packs_by file slice true (Err e) out w = ap (Packs (Err pack.NoRoom)) w.slice
packs_by file slice false (Ok n) out w = let e : n ≡ length file = cc (w.answer) in ap₂ Packs (ap Ok e) w.slice
packs_by file slice false (Err e) out w = ungiven (length file) 9 [] (sym w.answer)

module _ (K cutoff : ℕ) (text slice : List ℕ) where
  abbrev file : List ℕ
  file = packed K cutoff (labels_in text)

  abbrev Inside : Packing → Type 0
  Inside p = IfOk p.answer (λ n. n ≤ length p.slice)

  pack_inside : Inside (pack_text K cutoff text slice)
  unfolding pack_text
  pack_inside =
      choose Inside (is_mixed text) (λ _. tt)
      (λ _. choose Inside (ltb 16384 (length file)) (λ _. tt)
      (λ _. choose Inside (ltb (length slice) (length file)) (λ _. tt)
      (λ _. omega (arith, length-append file (drop (length file) slice)))))

  -- A file's size lies within the slice.
  pub packs_within : {n : ℕ} {out : List ℕ} → Packs (Ok n) out ≡ pack_text K cutoff text slice → n ≤ length out
  packs_within p = subst Inside (sym p) pack_inside

  -- The text is mixed.
  pub packs_mixed : true ≡ is_mixed text → Packs (Err pack.Mixed) slice ≡ pack_text K cutoff text slice
  unfolding pack_text
  packs_mixed t = rw (← t)

  module _ (plain : false ≡ is_mixed text) where
    -- The file would be too large.
    pub packs_large : 16384 < length file → Packs (Err pack.TooLarge) slice ≡ pack_text K cutoff text slice
    unfolding pack_text
    packs_large h = rw (← plain, lt-ltb 16384 (length file) h)

    -- It is copied into the slice, or does not fit it.
    pub packs_copied : length file ≤ 16384 → {r : Result ℕ NoRoom} {out : List ℕ} → Writes r out (fill 9 file slice)
        → Packs (packed_by r) out ≡ pack_text K cutoff text slice
    unfolding pack_text
    packs_copied h {r} {out} w =
        rw (← plain, le-ltb 16384 (length file) h) (packs_by file slice (ltb (length slice) (length file)) r out w)
