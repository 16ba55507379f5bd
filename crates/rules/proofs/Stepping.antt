-- Rule 3: the lowest label with a bad step, or none. Assumes nothing.
use Prim.Native.Nat.{ℕ, suc, ◌-◌, ◌%◌, ◌^◌, ◌≤◌, ◌<◌}
use mathlib.Core.Path.{◌≡◌, refl, ap, ◌∙◌}
use mathlib.Core.Logic.{⊎_elim}
use mathlib.Core.Bool.{true, false, not}
use mathlib.Core.List.{List, [], ◌∷◌, map, reverse}
use native.Mathlib.Omega.{arith}
use borrow.Author.Tests.{not-true, not-false}
use lib.ListN.{length}
use Rattle.lemmas.proofs.Tests.{never, or_first, or_second, or_cases}
use Rattle.lemmas.proofs.Numbers.{true_or_false}
use Rattle.dna.specs.Letters.{reverse_complement}
use Rattle.dna.proofs.Reversal.{length_reverse_complement}
use Rattle.kmer.specs.Kmer.{rc}
use Rattle.graph.specs.Table.{fit_from}
use Rattle.graph.specs.Sightings.{windows}
use Rattle.graph.specs.Walks.{Ends}
use Rattle.laws.specs.Windows.{windows_from, windows_of}
use Rattle.laws.specs.Neighbours.{Next, Next.now, Next.later}
use Rattle.laws.specs.Demand.{Each, Each.none, Each.more}
use Rattle.laws.proofs.Plain.{plain_bases}
use Rattle.laws.proofs.Windows.{windows_turned, Small, windows_small}
use Rattle.rules.specs.Listing.{Label}
use Rattle.rules.specs.Rules.{Steps, Rule3}
use Rattle.rules.specs.Verdict.{first_of, is_step, bad_step, breaks3}
use Rattle.rules.specs.Judged.{At, At.here, At.there, Lowest, BadStep}
use Rattle.rules.proofs.Firsts.{Clear, Clear.clear_none, Clear.clear_more, first_clear, first_lowest}
use Rattle.rules.proofs.Telling.{step_sound, step_complete}

-- ---- the windows of a label

module _ (K : ℕ) (one : 1 ≤ K) (l : List ℕ) (p : Label K l) where
  -- They are k-mers,
  pub label_small : Small K (windows_of K l)
  label_small = windows_small K (windows K l) l one (let h : K ≤ length l = p.1 in omega arith) (plain_bases l p.0)

  -- and on the other strand they stand turned, the last one first.
  pub label_turned : windows_of K (reverse_complement l) ≡ reverse (map (rc K) (windows_of K l))
  label_turned =
      let h : K ≤ length l = p.1 in
      ap (λ (n : ℕ). windows_from K (suc n - K) (reverse_complement l)) (length_reverse_complement l)
      ∙ windows_turned K one (windows K l) l (omega arith) (plain_bases l p.0)

next_small : (K : ℕ) {x y : ℕ} {ws : List ℕ} → Next x y ws → Small K ws → (x < 4 ^ K) × (y < 4 ^ K)
next_small K now s = (s.0, s.1.0)
next_small K (later n) s = next_small K n s.1

pub next_long : {x y : ℕ} {ws : List ℕ} → Next x y ws → 2 ≤ length ws
next_long now = omega arith
next_long (later n) = omega (arith, next_long n)

-- ---- steps

module _ (K : ℕ) (ks : List ℕ) (es : List Ends) where
  -- Two windows, of which one follows the other, that are no step.
  record Bad (ws : List ℕ) : Type 0 where
    from : ℕ
    to : ℕ
    follows : Next from to ws
    bad : is_step K ks es from to ≡ false

  bad_found : (ws : List ℕ) → bad_step K ks es ws ≡ true → Bad ws
  unfolding bad_step
  bad_found [] h = never false h refl
  bad_found (x ∷ []) h = never false h refl
  bad_found (x ∷ y ∷ ys) h = ⊎_elim
      (λ q. record { from = x; to = y; follows = now; bad = not-true (is_step K ks es x y) q })
      (λ q. let b = bad_found (y ∷ ys) q in record { from = b.from; to = b.to; follows = later b.follows; bad = b.bad })
      (or_cases (not (is_step K ks es x y)) (bad_step K ks es (y ∷ ys)) h)

  none_bad : {x y : ℕ} (ws : List ℕ) → bad_step K ks es ws ≡ false → Next x y ws → is_step K ks es x y ≡ true
  unfolding bad_step
  none_bad [] h n = elim n [ ]
  none_bad (x ∷ []) h (later n) = absurd (let z = next_long n in omega arith)
  none_bad (x ∷ y ∷ zs) h now = not-false (is_step K ks es x y) (or_first (not (is_step K ks es x y)) (bad_step K ks es (y ∷ zs)) h)
  none_bad (z ∷ w ∷ zs) h (later n) = none_bad (w ∷ zs) (or_second (not (is_step K ks es z w)) (bad_step K ks es (w ∷ zs)) h) n

  module _ (one : 1 ≤ K) (odd : K % 2 ≡ 1) (fit : fit_from K 0 ks ≡ true) where
    tells : (done : List (List ℕ)) (l : List ℕ) (rest : List (List ℕ)) → breaks3 K ks es done l ≡ true → BadStep K ks es done l rest
    unfolding breaks3
    tells done l rest h =
        let b = bad_found (windows_of K l) h in
        record {
          from = b.from;
          to = b.to;
          follows = b.follows;
          bad = λ g. never (is_step K ks es b.from b.to) (step_complete K ks es fit odd b.from b.to g) b.bad;
        }

    told : (done : List (List ℕ)) (l : List ℕ) (rest : List (List ℕ)) → Label K l → BadStep K ks es done l rest
        → breaks3 K ks es done l ≡ true
    unfolding breaks3
    told done l rest p b = ⊎_elim (λ q. q)
        (λ q.
        let s = next_small K b.follows (label_small K one l p) in
        absurd (b.bad (step_sound K ks es fit odd b.from b.to s.0 s.1 (none_bad (windows_of K l) q b.follows))))
        (true_or_false (bad_step K ks es (windows_of K l)))

    -- The first label that breaks rule 3 is the lowest with a bad step.
    pub lowest_3 : (ls : List (List ℕ)) → Each (Label K) ls → first_of (breaks3 K ks es) [] ls < length ls
        → Lowest (BadStep K ks es) ls (first_of (breaks3 K ks es) [] ls)
    lowest_3 ls e h =
        first_lowest (breaks3 K ks es) (BadStep K ks es) (λ done rest. Each (Label K) rest)
        (λ done l rest c _. tail c) (λ done l rest _ q. tells done l rest q) (λ done l rest c q. told done l rest (head c) q) ls e h
      where
        tail : {l : List ℕ} {rest : List (List ℕ)} → Each (Label K) (l ∷ rest) → Each (Label K) rest
        tail (more p q) = q

        head : {l : List ℕ} {rest : List (List ℕ)} → Each (Label K) (l ∷ rest) → Label K l
        head (more p q) = p

    -- Where no label breaks it, the list keeps rule 3.
    pub keeps_3 : (ls : List (List ℕ)) → Each (Label K) ls → length ls ≤ first_of (breaks3 K ks es) [] ls → Rule3 K ks es ls
    unfolding breaks3
    keeps_3 ls e h = go e (first_clear (breaks3 K ks es) [] ls h)
      where
        go : {done ms : List (List ℕ)} → Each (Label K) ms → Clear (breaks3 K ks es) done ms → Each (λ l. Steps K ks es (windows_of K l)) ms
        go none clear_none = none
        go (more {x = l} p q) (clear_more f c) =
            more (λ x y n.
            let s = next_small K n (label_small K one l p) in
            step_sound K ks es fit odd x y s.0 s.1 (none_bad (windows_of K l) f n)) (go q c)

  -- A list with a bad step does not keep it.
  pub broken_3 : {done ls : List (List ℕ)} {i : ℕ} → At (BadStep K ks es) done ls i → Rule3 K ks es ls → ⊥
  broken_3 (here b) (more p q) = b.bad (p b.from b.to b.follows)
  broken_3 (there a) (more p q) = broken_3 a q
