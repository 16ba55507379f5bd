-- The colours written so far, run by run: the first run begun, one more, all. Assumes nothing.
use mathlib.Core.Path.{◌≡◌, refl, sym, ap, ◌∙◌}
use mathlib.Core.List.{List}
use Prim.Native.Nat.{ℕ, zero, suc, ◌+◌, ◌-◌, ◌≤◌, ◌<◌}
use native.Mathlib.Nat.{not-suc-le-zero, le_of_suc-le-suc}
use native.Mathlib.Omega.{arith}
use borrow.Rule.Slice.PartMut.{mid_of, put_mid, mid_len, same_len_mid}
use lib.ListN.{length, get_or, take, drop, replicate, length-drop, length-replicate, get_or-replicate}
use lib.Seq.{length-take-le, get_or-take, get_or-drop, ext_get_or}
use Rattle.lemmas.proofs.Building.{Built, built_none, built_part, built_all}
use Rattle.dna.specs.Text.{over}
use Rattle.colours.specs.Packed.{coordinate_in}
use Rattle.colours.specs.Runs.{offset_at, Sound, Last, last_by, colors_from}
use Rattle.colours.proofs.Listing.{ascend_on, last_found}

-- One colour for each vertex.
pub length_colors : (runs : List ℕ) (vertex n : ℕ) → length (colors_from runs vertex n) ≡ n
unfolding colors_from
length_colors runs vertex zero = refl
length_colors runs vertex (suc n) = ap suc (length_colors runs (suc vertex) n)

colors_from_lem : (runs : List ℕ) (vertex n i : ℕ) → i < n
    → get_or (colors_from runs vertex n) i 0 ≡ last_by (vertex + i) 0 runs
unfolding colors_from
colors_from_lem runs vertex zero i h = absurd (not-suc-le-zero h)
colors_from_lem runs vertex (suc n) zero h = let e : vertex + 0 ≡ vertex = omega arith in rw e
colors_from_lem runs vertex (suc n) (suc i) h =
    let e : vertex + suc i ≡ suc vertex + i = omega arith in
    rw e (colors_from_lem runs (suc vertex) n i (le_of_suc-le-suc h))

pub colors_at : (runs : List ℕ) (kmers vertex : ℕ) → vertex < kmers
    → get_or (colors_from runs 0 kmers) vertex 0 ≡ last_by vertex 0 runs
colors_at runs kmers vertex h =
    let e : 0 + vertex ≡ vertex = omega arith in
    colors_from_lem runs 0 kmers vertex h ∙ rw e

-- Run i - 1 begins at `from` and has this colour, and the slice has the colours of the vertices before it.
pub record Painting (kmers : ℕ) (runs out₀ out : List ℕ) (color from i : ℕ) : Type 0 where
  pub sound : Sound kmers runs
  pub room : kmers ≤ length out₀
  pub begun : (0 < i) × (i ≤ length runs)
  pub place : from ≡ offset_at runs (i - 1)
  pub painted : color ≡ coordinate_in (get_or runs (i - 1) 0)
  pub cells : Built (colors_from runs 0 kmers) out₀ out from
  pub long : length out ≡ length out₀

pub painting_first : {kmers : ℕ} {runs out₀ : List ℕ} → Sound kmers runs → kmers ≤ length out₀ → (color : ℕ)
    → color ≡ coordinate_in (get_or runs 0 0) → Painting kmers runs out₀ out₀ color 0 1
painting_first {kmers} {runs} {out₀} s r color e = record {
  sound = s;
  room = r;
  begun = (omega arith, s.some);
  place = sym s.first;
  painted = e;
  cells = built_none (colors_from runs 0 kmers) out₀;
  long = refl;
}

module _ {kmers : ℕ} {runs out₀ out : List ℕ} {color from i : ℕ} (p : Painting kmers runs out₀ out color from i) where
  abbrev all : List ℕ
  all = colors_from runs 0 kmers

  -- The run begins in the label.
  pub painting_below : from < kmers
  painting_below = omega (arith, p.place, p.sound.below (i - 1) (omega (arith, p.begun.0, p.begun.1)))

  -- The next one begins behind it, in the label too.
  pub painting_next : i < length runs → (from < offset_at runs i) × (offset_at runs i < kmers)
  painting_next h = (
    omega (arith, p.place, p.sound.ascend (i - 1) i (omega (arith, p.begun.0)) h),
    p.sound.below i h,
  )

  -- The cells up to `to`, before which no later run begins.
  module _ (to : ℕ) (up : from ≤ to) (inside : to ≤ kmers)
      (later : (j : ℕ) → i ≤ j → j < length runs → to ≤ offset_at runs j)
      (part : List ℕ) (q : part ≡ replicate (length (mid_of from (to - from) out)) color) where
    last : (v : ℕ) → from ≤ v → v < to → Last v runs (i - 1)
    last v f t = record {
      within = omega (arith, p.begun.0, p.begun.1);
      reached = omega (arith, p.place);
      later = λ j h k. omega (arith, later j (omega (arith, p.begun.0)) k);
    }

    abbrev size : ℕ
    size = to - from

    abbrev wanted : List ℕ
    wanted = take size (drop from all)

    long_enough : length wanted ≡ size
    long_enough =
        length-take-le size (drop from all) (omega (arith, length-drop from all, length_colors runs 0 kmers))

    same : (v : ℕ) → v < size → get_or wanted v 0 ≡ color
    same v h =
        get_or-take size (drop from all) v 0 h
        ∙ get_or-drop from all v 0
        ∙ colors_at runs kmers (from + v) (omega arith)
        ∙ last_found (from + v) runs 0 (i - 1) (last (from + v) (omega arith) (omega arith))
        ∙ sym p.painted

    alike : replicate size color ≡ wanted
    alike =
        ext_get_or 0 (replicate size color) wanted (length-replicate size color ∙ sym long_enough)
        (λ v h. let l : v < size = rw (length-replicate size color) at h in
        get_or-replicate size v color 0 l ∙ sym (same v l))

    piece : part ≡ wanted
    piece = q ∙ rw (mid_len from to out (omega (arith, p.room, p.long))) alike

    painted_to : Built all out₀ (put_mid from size out part) to
    painted_to = built_part all out₀ out from p.cells to part up (omega (arith, length_colors runs 0 kmers)) piece

    kept : length (put_mid from size out part) ≡ length out₀
    kept =
        same_len_mid from size out part (ap length q ∙ length-replicate (length (mid_of from size out)) color) ∙ p.long

  -- One run more; it begins at `to`.
  module _ (h : i < length runs) (to : ℕ) (e : to ≡ offset_at runs i)
      (part : List ℕ) (q : part ≡ replicate (length (mid_of from (to - from) out)) color)
      (next : ℕ) (n : next ≡ coordinate_in (get_or runs i 0)) where
    pub painting_more : Painting kmers runs out₀ (put_mid from (to - from) out part) next to (i + 1)
    painting_more =
        let f = painting_next h in
        let b : i + 1 - 1 ≡ i = omega arith in
        record {
          sound = p.sound;
          room = p.room;
          begun = (omega arith, omega arith);
          place = rw b e;
          painted = rw b n;
          cells = painted_to to (omega (arith, f.0)) (omega (arith, f.1)) behind part q;
          long = kept to (omega (arith, f.0)) (omega (arith, f.1)) behind part q;
        }
      where
        behind : (j : ℕ) → i ≤ j → j < length runs → to ≤ offset_at runs j
        behind j l k = omega (arith, e, ascend_on p.sound i j l k)

  -- The last run goes up to the label's end.
  pub painting_all : length runs ≤ i → (part : List ℕ)
      → part ≡ replicate (length (mid_of from (kmers - from) out)) color
      → put_mid from (kmers - from) out part ≡ over all out₀
  painting_all h part q =
      let b = painted_to kmers (omega (arith, painting_below)) (omega arith) (λ j l k. absurd (omega arith)) part q in
      built_all all out₀ (put_mid from (kmers - from) out part) kmers b (omega (arith, length_colors runs 0 kmers))
