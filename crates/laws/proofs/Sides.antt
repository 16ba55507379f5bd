-- A k-mer as it is seen from a side, and the base that leads away from it there. Assumes nothing.
use mathlib.Core.Path.{◌≡◌, refl, ap, ◌∙◌, subst}
use mathlib.Core.Bool.{Bool, true, false, cond}
use mathlib.Core.Logic.{⊎_elim}
use mathlib.Core.List.{List}
use Prim.Native.Nat.{ℕ, ◌-◌, ◌^◌, ◌<◌}
use native.Mathlib.Omega.{arith}
use lib.ListN.{get_or}
use borrow.Author.Tests.{leb-false, lt-ltb, le-ltb}
use Rattle.lemmas.proofs.Numbers.{lt_or_ge}
use Rattle.dna.specs.Letters.{complement}
use Rattle.dna.proofs.Letters.{complement_complement}
use Rattle.kmer.specs.Kmer.{rc, canon, is_canon, forward}
use Rattle.kmer.proofs.Strands.{rc_rc, canon_of_canonical}
use Rattle.state.specs.declared.Side.{Side}
use Rattle.state.specs.declared.Side.TheVariants.{Front, Back}
use Rattle.state.specs.Counted.{slot_of, opposite}
use Rattle.state.proofs.Slots.{slot_inj}
use Rattle.graph.specs.Walks.{seen, leaving, entrance}

-- k-mer x as it is seen where it is left by a side.
abbrev pub seen_as : ℕ → ℕ → Side → ℕ
seen_as K x Front = rc K x
seen_as K x Back = x

-- A vertex as a walk sees it.
pub seen_is : (K : ℕ) (ks : List ℕ) (v : ℕ) (s : Side) → seen K ks v s ≡ seen_as K (get_or ks v 0) s
seen_is K ks v Front = refl
seen_is K ks v Back = refl

pub complement_is : (c : ℕ) → c < 4 → complement c ≡ 3 - c
unfolding complement
complement_is c h = rw (lt-ltb c 4 h)

-- What has a base for its complement is one.
pub complement_back : (c : ℕ) → complement c < 4 → c < 4
unfolding complement
complement_back c h = ⊎_elim (λ l. l) (λ l. let e : complement c ≡ c = rw (le-ltb c 4 l) in omega arith) (lt_or_ge c 4)

pub complement_none : complement 5 ≡ 5
unfolding complement
complement_none = refl

pub leaving_leaving : (s : Side) (c : ℕ) → leaving s (leaving s c) ≡ c
leaving_leaving Front c = complement_complement c
leaving_leaving Back c = refl

pub leaving_lt : (s : Side) (c : ℕ) → c < 4 → leaving s c < 4
leaving_lt Front c h = rw (complement_is c h) (omega arith)
leaving_lt Back c h = h

module _ (K x : ℕ) (h : x < 4 ^ K) where
  turned : is_canon K x ≡ false → canon K x ≡ rc K x
  unfolding canon is_canon
  turned t = omega (arith, leb-false x (rc K x) t)

  -- Left by the side opposite its entrance a k-mer is seen as it stands, and by its entrance on the other strand.
  pub seen_exit : seen_as K (canon K x) (opposite (entrance K x)) ≡ x
  seen_exit = go (is_canon K x) refl
    where
      go : (t : Bool) → is_canon K x ≡ t → seen_as K (canon K x) (opposite (cond t Front Back)) ≡ x
      go true e = canon_of_canonical K x e
      go false e = ap (rc K) (turned e) ∙ rc_rc K x h

  pub seen_entrance : seen_as K (canon K x) (entrance K x) ≡ rc K x
  seen_entrance = go (is_canon K x) refl
    where
      go : (t : Bool) → is_canon K x ≡ t → seen_as K (canon K x) (cond t Front Back) ≡ rc K x
      go true e = ap (rc K) (canon_of_canonical K x e)
      go false e = turned e

-- What a counter's k-mer, side and base lead to, where the counter is given by the base that leads away.
pub leads : (K : ℕ) (Q : ℕ → Type 0) (x : ℕ) (t : Side) (c : ℕ) → c < 4 → Q (forward K (seen_as K x t) c)
    → (s : Side) (b : ℕ) → b < 4 → slot_of t (leaving t c) ≡ slot_of s b → Q (forward K (seen_as K x s) (leaving s b))
leads K Q x t c h q s b l e =
    let i = slot_inj t s (leaving t c) b (leaving_lt t c h) l e in
    let d : leaving s b ≡ c = rw (← i.0, ← i.1) (leaving_leaving t c) in
    rw d (subst (λ (u : Side). Q (forward K (seen_as K x u) c)) i.0 q)
