-- The first byte of a text that is no base, found from the left; there is none exactly in a text of bases. Assumes
-- nothing.
use mathlib.Core.Path.{◌≡◌, refl, sym, ap, ◌∙◌}
use mathlib.Core.Bool.{Bool, true, false, cond}
use mathlib.Core.List.{List, [], ◌∷◌}
use Prim.Native.Nat.{ℕ, suc, ◌+◌, ◌<◌, ◌≤◌}
use native.Mathlib.Numerals.{add-one}
use lib.ListN.{length, get_or, drop, drop_of_length-le}
use lib.Seq.{drop-cons}
use borrow.Author.Tests.{lt-ltb, ltb-true}
use Rattle.dna.specs.Letters.{code_of, is_base, first_bad}
use Rattle.kmer.proofs.Windows.{Bases}

module _ (s : List ℕ) (i : ℕ) (e : first_bad 0 s ≡ first_bad i (drop i s)) where
  pub bad_behind : i < length s → is_base (get_or s i 0) ≡ true → first_bad 0 s ≡ first_bad (i + 1) (drop (i + 1) s)
  unfolding first_bad
  bad_behind h b = e ∙ ap (first_bad i) (drop-cons s i 0 h) ∙ rw (add-one i) (simp b)

  pub bad_here : i < length s → is_base (get_or s i 0) ≡ false → i ∷ get_or s i 0 ∷ [] ≡ first_bad 0 s
  unfolding first_bad
  bad_here h b = sym (e ∙ ap (first_bad i) (drop-cons s i 0 h) ∙ simp b)

  pub bad_nowhere : length s ≤ i → [] ≡ first_bad 0 s
  unfolding first_bad
  bad_nowhere h = sym (e ∙ ap (first_bad i) (drop_of_length-le s {i = i} h))

pub no_bad : (i : ℕ) (s : List ℕ) → Bases s → first_bad i s ≡ []
unfolding first_bad
no_bad i [] h = refl
no_bad i (b ∷ s) h = simp (lt-ltb (code_of b) 4 h.0) (no_bad (suc i) s h.1)

pub no_bad_bases : (i : ℕ) (s : List ℕ) → first_bad i s ≡ [] → Bases s
unfolding first_bad
no_bad_bases i [] h = tt
no_bad_bases i (b ∷ s) h = go (is_base b) refl (no_bad_bases (suc i) s) h
  where
    go : (t : Bool) → is_base b ≡ t → (first_bad (suc i) s ≡ [] → Bases s) → cond t (first_bad (suc i) s) (i ∷ b ∷ []) ≡ [] → Bases (b ∷ s)
    go true e f q = (ltb-true (code_of b) 4 e, f q)
    go false e f q = cc
