-- One repeated base: the k-mer follows itself. Assumes nothing.
use Prim.Native.Nat.{ℕ, zero, suc, ◌%◌, ◌^◌, ◌≤◌, ◌<◌}
use mathlib.Core.Path.{◌≡◌, refl, sym, ap, ◌∙◌}
use mathlib.Core.Bool.{true}
use mathlib.Core.List.{List, [], ◌∷◌, ◌++◌}
use native.Mathlib.Omega.{arith}
use borrow.Author.Tests.{eqb-true, eq-eqb}
use lib.ListN.{length, get_or, replicate, length-replicate}
use Rattle.dna.specs.Letters.{code_of, letter_of}
use Rattle.kmer.specs.Kmer.{packed, forward, letters}
use Rattle.kmer.proofs.Windows.{Bases, packed_slide, packed_snoc}
use Rattle.kmer.proofs.Texts.{packed_letters, bases_letters}
use Rattle.graph.specs.Table.{fit_from}
use Rattle.graph.proofs.Lookup.{key_at_lem}
use Rattle.laws.specs.Demand.{OneBase}
use Rattle.laws.proofs.Links.{loop_letters}
use Rattle.rules.specs.Verdict.{is_one_base}

again : (k c : ℕ) → replicate k c ++ (c ∷ []) ≡ c ∷ replicate k c
again zero c = refl
again (suc k) c = ap (λ (l : List ℕ). c ∷ l) (again k c)

follows_itself : (K x c : ℕ) → 1 ≤ K → x < 4 ^ K → letters K x ≡ replicate K c → forward K x (x % 4) ≡ x
follows_itself zero x c one h q = absurd (omega arith)
follows_itself (suc k) x c one h q =
    let r = replicate k c in
    let n : length (replicate k c) ≡ k = length-replicate k c in
    let b : (code_of c < 4) × Bases (replicate k c) = rw q at (bases_letters (suc k) x) in
    let xs : x ≡ packed (c ∷ replicate k c) = sym (packed_letters (suc k) x h) ∙ ap packed q in
    let same : packed (replicate k c ++ (c ∷ [])) ≡ x = ap packed (again k c) ∙ sym xs in
    let l : code_of c < 4 = b.0 in
    let m : x % 4 ≡ code_of c = omega (arith, packed_snoc (replicate k c) c) in
    ap (λ (d : ℕ). forward (suc k) x d) m ∙ ap (λ (z : ℕ). forward (suc k) z (code_of c)) xs
    ∙ (rw n at (packed_slide r c c b.1 b.0)) ∙ same

module _ (K : ℕ) (ks : List ℕ) (one : 1 ≤ K) (fit : fit_from K 0 ks ≡ true) where
  pub one_sound : (v : ℕ) → v < length ks → is_one_base K (get_or ks v 0) ≡ true → OneBase K (get_or ks v 0)
  one_sound v h e =
      let x = get_or ks v 0 in
      (letter_of (x % 4), loop_letters K x (x % 4) (key_at_lem K ks fit v h).below (omega arith) (eqb-true (forward K x (x % 4)) x e))

  pub one_complete : (v : ℕ) → v < length ks → OneBase K (get_or ks v 0) → is_one_base K (get_or ks v 0) ≡ true
  one_complete v h o =
      let x = get_or ks v 0 in
      eq-eqb (forward K x (x % 4)) x (follows_itself K x o.0 one (key_at_lem K ks fit v h).below o.1)
