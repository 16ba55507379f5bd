-- One step of what is left of a walk: it takes the first of the bases, or is the last. Assumes nothing.
use mathlib.Core.Path.{◌≡◌, refl, sym, ap, ◌∙◌}
use mathlib.Core.Bool.{false}
use mathlib.Core.List.{List, [], ◌∷◌, map}
use Prim.Native.Nat.{ℕ}
use lib.ListN.{set, drop}
use Rattle.lemmas.proofs.Tests.{never}
use Rattle.state.specs.declared.Side.{Side}
use Rattle.graph.specs.declared.Step.{Step}
use Rattle.graph.specs.declared.Step.TheVariants.{Next}
use Rattle.graph.specs.Walks.{Ends, Walk, step}
use Rattle.laws.specs.Trails.{Place, is_next, Trail, Trail.ends, Trail.goes}
use Rattle.laws.proofs.Fuel.{Went}

-- A walk without its first bases.
abbrev pub rest : ℕ → Walk → Walk
rest n w = record { bases = drop n w.bases; marks = w.marks; last = w.last }

abbrev bases_of_lem : List Place → List ℕ
bases_of_lem ps = map (λ (p : Place). p.base) ps

module _ {K : ℕ} {ks : List ℕ} {es : List Ends} {a : ℕ} {start : Side} where
  trail_on : {marks after bs : List ℕ} {v u b : ℕ} {s t : Side} {ps : List Place} {last : Step}
      → Trail K ks es a start marks v s ps after last → bs ≡ bases_of_lem ps
      → step K ks es a start marks v s ≡ Next u t b
      → (bs ≡ b ∷ drop 1 bs) × Went K ks es a start (set marks u 1) u t
      (record { bases = drop 1 bs; marks = after; last = last })
  trail_on (ends {st = st} e h) q f = absurd (never (is_next st) (ap is_next (sym e ∙ f)) h)
  trail_on {u = u} {b = b} {t = t} (goes {u = u₁} {b = b₁} {t = t₁} {ps = ps} e r) q f =
      let same : Next u₁ t₁ b₁ ≡ Next u t b = sym e ∙ f in
      let eu : u₁ ≡ u = cc in
      let et : t₁ ≡ t = cc in
      let eb : b₁ ≡ b = cc in
      let all = q ∙ ap (λ (x : ℕ). x ∷ bases_of_lem ps) eb in (
        all ∙ sym (ap (λ (l : List ℕ). b ∷ drop 1 l) all),
        record { places = ps; trail = rw (eu, et) at r; bases = ap (drop 1) all },
      )

  -- A step that leads on takes the first of the bases.
  pub went_on : {marks : List ℕ} {v u b : ℕ} {s t : Side} {w : Walk} → Went K ks es a start marks v s w
      → step K ks es a start marks v s ≡ Next u t b
      → (w.bases ≡ b ∷ drop 1 w.bases) × Went K ks es a start (set marks u 1) u t (rest 1 w)
  went_on g f = trail_on g.trail g.bases f

  trail_stops : {marks after : List ℕ} {v : ℕ} {s : Side} {ps : List Place} {last st : Step}
      → Trail K ks es a start marks v s ps after last
      → step K ks es a start marks v s ≡ st → is_next st ≡ false → (bases_of_lem ps ≡ []) × (marks ≡ after)
      × (st ≡ last)
  trail_stops (ends e h) f n = (refl, refl, sym f ∙ e)
  trail_stops {st = st} (goes e r) f n = absurd (never (is_next st) (ap is_next (sym f ∙ e)) n)

  -- Any other step is the last, and no base is left.
  pub went_ends : {marks : List ℕ} {v : ℕ} {s : Side} {w : Walk} {st : Step} → Went K ks es a start marks v s w
      → step K ks es a start marks v s ≡ st → is_next st ≡ false → (w.bases ≡ []) × (marks ≡ w.marks) × (st ≡ w.last)
  went_ends g f n = let o = trail_stops g.trail f n in (g.bases ∙ o.0, o.1, o.2)
