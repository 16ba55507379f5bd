-- The size that a call answers lies within the slice that it filled. Assumes nothing.
use mathlib.Core.Path.{◌≡◌, sym}
use mathlib.Core.List.{List, []}
use Prim.Native.Nat.{ℕ, ◌≤◌}
use native.Mathlib.Omega.{arith}
use lib.Dec.{ltb}
use lib.ListN.{length, drop, length-append}
use Rattle.lemmas.proofs.Tests.{choose}
use Rattle.dna.specs.Answer.{gives, refuses, Filled, fill}
use Rattle.dna.proofs.Answers.{ungiven}

abbrev pub Inside : Filled → Type 0
Inside f = (n : ℕ) → f.answer ≡ gives n → n ≤ length f.slice

pub refused_inside : (r : ℕ) (vs slice : List ℕ) → Inside (record { answer = refuses r vs; slice = slice })
refused_inside r vs slice n e = ungiven n r vs (sym e)

given : {a b : ℕ} → gives a ≡ gives b → a ≡ b
given e = cc

pub fill_inside : (r : ℕ) (text slice : List ℕ) → Inside (fill r text slice)
fill_inside r text slice =
    choose Inside (ltb (length slice) (length text)) (λ _. refused_inside r [] slice)
    (λ _ n e. omega (arith, given e, length-append text (drop (length text) slice)))
