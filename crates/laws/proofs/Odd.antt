-- For odd K no k-mer is its own reverse complement, so each has its two ways of being seen apart. Assumes nothing.
use mathlib.Core.Path.{◌≡◌, refl, sym, ap, ◌∙◌}
use Prim.Native.Nat.{ℕ, zero, suc, ◌+◌, ◌-◌, ◌*◌, ◌/◌, ◌%◌, ◌^◌, ◌<◌}
use native.Mathlib.Nat.{mod-lt, div-add-mod', pow-succ', div-lt_iff_lt-mul}
use native.Mathlib.Omega.{arith}
use lib.Arith.{digits_mod}
use Rattle.kmer.specs.Kmer.{rc, canon}
use Rattle.kmer.proofs.Wide.{four_pos}
use Rattle.kmer.proofs.Turned.{rc_lt}
use Rattle.kmer.proofs.Strands.{canon_rc, canon_of_canonical}
use Rattle.state.specs.declared.Side.{Side}
use Rattle.state.specs.declared.Side.TheVariants.{Front, Back}
use Rattle.graph.proofs.Lookup.{Key}
use Rattle.laws.proofs.Links.{four_more, rc_one, rc_last, rc_front}
use Rattle.laws.proofs.Sides.{seen_as}

-- A k-mer that is its own reverse complement stays so without its first and last base.
inner : (k x : ℕ) → x < 4 ^ suc (suc k) → rc (suc (suc k)) x ≡ x → rc k (x / 4 % 4 ^ k) ≡ x / 4 % 4 ^ k
inner k x h e =
    let y = x / 4 in
    let f = y / 4 ^ k in
    let m = y % 4 ^ k in
    let ml : m < 4 ^ k = mod-lt y (four_pos k) in
    let yl : y < 4 ^ suc k = omega (arith, pow-succ' 4 (suc k)) in
    let fl : f < 4 = (div-lt_iff_lt-mul (four_pos k)).1 (rw (pow-succ' 4 k) at yl) in
    let ys : y ≡ f * 4 ^ k + m = sym (div-add-mod' y (4 ^ k)) in
    let xs : x ≡ 4 * y + x % 4 = omega arith in
    let turned : rc (suc (suc k)) x ≡ (3 - x % 4) * 4 ^ suc k + (4 * rc k m + (3 - f)) =
    ap (rc (suc (suc k))) xs ∙ rc_last (suc k) y (x % 4) (omega arith)
    ∙ ap (λ (n : ℕ). (3 - x % 4) * 4 ^ suc k + n) (ap (rc (suc k)) ys ∙ rc_front k f m fl ml) in
    let a : 4 * rc k m + (3 - f) < 4 ^ suc k = omega (arith, rc_lt k m, pow-succ' 4 k) in
    let b : 4 * m + x % 4 < 4 ^ suc k = omega (arith, pow-succ' 4 k) in
    let up : x ≡ f * 4 ^ suc k + (4 * m + x % 4) = omega (arith, four_more f k) in
    let p : 4 * rc k m + (3 - f) ≡ 4 * m + x % 4 =
    sym (digits_mod (3 - x % 4) a) ∙ ap (λ (n : ℕ). n % 4 ^ suc k) (sym turned ∙ e ∙ up) ∙ digits_mod f b in
    omega arith

pub odd_apart : (K x : ℕ) → K % 2 ≡ 1 → x < 4 ^ K → rc K x ≡ x → ⊥
odd_apart zero x o h e = omega arith
odd_apart (suc zero) x o h e = let p = rc_one x h in omega arith
odd_apart (suc (suc k)) x o h e =
    odd_apart k (x / 4 % 4 ^ k) (omega arith) (mod-lt (x / 4) (four_pos k)) (inner k x h e)

-- A stored k-mer is known by how it is seen.
pub canon_seen : (K x : ℕ) (s : Side) → Key K x → canon K (seen_as K x s) ≡ x
canon_seen K x Front f = canon_rc K x f.below ∙ canon_of_canonical K x f.canonical
canon_seen K x Back f = canon_of_canonical K x f.canonical

pub seen_lt : (K x : ℕ) (s : Side) → Key K x → seen_as K x s < 4 ^ K
seen_lt K x Front f = rc_lt K x
seen_lt K x Back f = f.below

-- For odd K the side is known too.
pub seen_inj : (K x y : ℕ) (s t : Side) → K % 2 ≡ 1 → Key K x → Key K y → seen_as K x s ≡ seen_as K y t → (x ≡ y) × (s ≡ t)
seen_inj K x y s t o f g e =
    let same : x ≡ y = sym (canon_seen K x s f) ∙ ap (canon K) e ∙ canon_seen K y t g in
    (same, side s t e same)
  where
    side : (s t : Side) → seen_as K x s ≡ seen_as K y t → x ≡ y → s ≡ t
    side Front Front e same = refl
    side Back Back e same = refl
    side Front Back e same = absurd (odd_apart K x o f.below (e ∙ sym same))
    side Back Front e same = absurd (odd_apart K y o g.below (sym e ∙ same))
