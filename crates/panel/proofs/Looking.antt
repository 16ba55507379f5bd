-- A label is looked through: the part at a place, and the first start from there on. Assumes nothing.
use Rattle.std.proofs.Common.{◌≡◌, ℕ, ◌+◌, ◌-◌, ◌<◌, ◌≤◌, true, false, List, length, get_or, take, drop, sym, refl, ◌∙◌, arith, length-drop, length-take}
use Rattle.panel.specs.Probes.{gc_of, gc_in, between, none, begins, first_from, first_probe}
use Rattle.panel.proofs.Sliding.{gcs_le, slide}
use Rattle.panel.proofs.Starts.{short_none, long_test, starts_here, starts_later}

-- `held` of the L bases at a place are G or C, `last` is the last place that has L bases, and no probe starts before
-- the place.
pub record Looking (L least most : ℕ) (label : List ℕ) (last held at : ℕ) : Type 0 where
  pub some : 0 < L
  pub places : (at ≤ last) × (last + L ≡ length label)
  pub counted : held ≡ gc_in (take L (drop at label))
  pub few : held ≤ L
  pub left : first_probe L least most label ≡ first_from L least most at (drop at label)

few_in : (L : ℕ) (s : List ℕ) → gc_in (take L s) ≤ L
few_in L s = let n : length (take L s) ≤ L = rw (length-take L s) (omega arith) in omega (arith, gcs_le (take L s))

module _ (L least most : ℕ) (label : List ℕ) where
  pub looking_starts : 0 < L → L ≤ length label → (held : ℕ) → held ≡ gc_in (take L label)
      → Looking L least most label (length label - L) held 0
  looking_starts p h held e =
      record {
        some = p;
        places = (omega arith, omega arith);
        counted = e;
        few = omega (arith, few_in L label, e);
        left = refl;
      }

module _ {L least most : ℕ} {label : List ℕ} {last held at : ℕ} (l : Looking L least most label last held at) where
  here : at < length label
  here = omega (arith, l.some, l.places.0, l.places.1)

  -- Whether a probe starts at the place.
  test : begins L least most (drop at label) ≡ between least held most
  test =
      let n : L ≤ length (drop at label) = rw (length-drop at label) (omega (arith, l.places.0, l.places.1)) in
      rw l.counted (long_test L least most (drop at label) n)

  pub looking_finds : between least held most ≡ true → at ≡ first_probe L least most label
  looking_finds t = sym (l.left ∙ starts_here L least most label at here (test ∙ t))

  pub looking_ends : last ≤ at → between least held most ≡ false → none ≡ first_probe L least most label
  looking_ends h t =
      let rest = drop (at + 1) label in
      let n : length rest < L = rw (length-drop (at + 1) label) (omega (arith, l.some, l.places.0, l.places.1)) in
      sym (l.left ∙ starts_later L least most label at here (test ∙ t) ∙ short_none L least most (at + 1) rest n)

  -- One place on.
  module _ (h : at < last) (new old : ℕ) (i : new ≡ gc_of (get_or label (at + L) 0))
      (o : old ≡ gc_of (get_or label at 0))
    where
      moved : gc_in (take L (drop (at + 1) label)) + old ≡ held + new
      moved = rw (i, o, l.counted) (slide L label at l.some (omega (arith, l.places.1)))

      pub looking_keeps : old ≤ held + new
      looking_keeps = omega (arith, moved)

      pub looking_moves : between least held most ≡ false → Looking L least most label last (held + new - old) (at + 1)
      looking_moves t =
          let e : held + new - old ≡ gc_in (take L (drop (at + 1) label)) = omega (arith, moved) in
          record {
            some = l.some;
            places = (omega arith, l.places.1);
            counted = e;
            few = omega (arith, few_in L (drop (at + 1) label), e);
            left = l.left ∙ starts_later L least most label at here (test ∙ t);
          }
