-- Rule 4 over a list: the first label with a loose end is the lower of a pair not joined. Assumes nothing.
use Prim.Native.Nat.{ℕ, ◌+◌, ◌%◌, ◌≤◌, ◌<◌}
use mathlib.Core.Path.{◌≡◌, refl}
use mathlib.Core.Logic.{◌⊎◌, inl, inr, ⊎_elim}
use mathlib.Core.Bool.{true, false}
use mathlib.Core.List.{List, [], ◌∷◌, map}
use native.Mathlib.Omega.{arith}
use borrow.Author.Tests.{eq-eqb}
use lib.ListN.{length, get_or}
use Rattle.lemmas.proofs.Tests.{never}
use Rattle.lemmas.proofs.Numbers.{lt_or_ge}
use Rattle.kmer.specs.Kmer.{canon}
use Rattle.state.specs.declared.Side.{Side}
use Rattle.graph.specs.Table.{fit_from}
use Rattle.graph.specs.Walks.{Ends}
use Rattle.laws.specs.Windows.{windows_of, tally, occurs, occurrences}
use Rattle.laws.specs.Neighbours.{Next, Next.now, Next.later, Together, Together.follows, Together.precedes, Together.two_ends, Together.ends_two}
use Rattle.laws.specs.Demand.{Each, Each.none, Each.more, Some, Some.here, Some.there}
use Rattle.laws.proofs.Pieces.{together_back}
use Rattle.laws.proofs.Occurrences.{tally_append}
use Rattle.rules.specs.Rules.{Rule2, Rule4}
use Rattle.rules.specs.Verdict.{first_of, kmers_of, breaks4}
use Rattle.rules.specs.Judged.{At, At.here, At.there, Lowest, Unjoined}
use Rattle.rules.proofs.Firsts.{Clear, Clear.clear_none, Clear.clear_more, first_clear, first_lowest}
use Rattle.rules.proofs.Telling.{edge_live}
use Rattle.rules.proofs.Standing.{once_2}
use Rattle.rules.proofs.Straying.{Good, beside_or_breaks, breaks_strays}
use Rattle.rules.proofs.Ending.{Wanted, wanted_back}

-- ---- what stands together stands there

next_first : {a b : ℕ} {zs : List ℕ} → Next a b zs → 1 ≤ tally a zs
unfolding tally
next_first {a} now = rw (eq-eqb a a refl) (omega arith)
next_first (later n) = omega (arith, next_first n)

next_second : {a b : ℕ} {zs : List ℕ} → Next a b zs → 1 ≤ tally b zs
unfolding tally
next_second {a} {b} now = rw (eq-eqb b b refl) (omega arith)
next_second (later n) = omega (arith, next_second n)

together_stands : {a b : ℕ} {zs : List ℕ} → Together a b zs → 1 ≤ tally a zs
unfolding tally
together_stands (follows n) = next_first n
together_stands (precedes n) = next_second n
together_stands {a} (two_ends ms) = rw (eq-eqb a a refl) (omega arith)
together_stands {a} {b} (ends_two ms) =
    let e : tally a (a ∷ []) ≡ 1 = rw (eq-eqb a a refl) in
    omega (arith, tally_append a ms (a ∷ []))

-- ---- a list

module _ (K : ℕ) (ks : List ℕ) (es : List Ends) (one : 1 ≤ K) (odd : K % 2 ≡ 1) (fit : fit_from K 0 ks ≡ true) where
  abbrev key : ℕ → ℕ
  key v = get_or ks v 0

  -- u and v stand together in a label.
  abbrev pub Beside : ℕ → ℕ → List ℕ → Type 0
  Beside u v l = Together (key u) (key v) (map (canon K) (windows_of K l))

  -- One of some labels holds a k-mer.
  find_some : {P Q : List ℕ → Type 0} (x : ℕ) {ls : List (List ℕ)} → Each P ls → 1 ≤ occurrences K x ls
      → ((l : List ℕ) → P l → 1 ≤ occurs K x l → Q l) → Some Q ls
  unfolding occurrences
  find_some x none h f = absurd (omega arith)
  find_some x (more {x = l} {xs = ls} p e) h f =
      ⊎_elim (λ z. there (find_some x e (omega arith) f)) (λ z. here (f l p z)) (lt_or_ge (occurs K x l) 1)

  some_stands : (u v : ℕ) {ls : List (List ℕ)} → Some (Beside u v) ls → 1 ≤ occurrences K (key u) ls
  unfolding occurrences
  some_stands u v (here t) = omega (arith, together_stands t)
  some_stands u v (there s) = omega (arith, some_stands u v s)

  some_back : (u v : ℕ) {ls : List (List ℕ)} → Some (Beside u v) ls → Some (Beside v u) ls
  some_back u v (here t) = here (together_back t)
  some_back u v (there s) = there (some_back u v s)

  module _ (ls : List (List ℕ)) (rule2 : Rule2 K ks es ls) where
    once : (x : ℕ) → occurrences K x ls ≤ 1
    once = once_2 K ks es rule2

    stands_once : {u v : ℕ} {s t : Side} → Wanted K ks es one odd fit u s v t → occurrences K (key u) ls ≡ 1
    stands_once {u} {s = s} g = rule2.exactly_once u g.u_stored (edge_live K ks es fit u s g.sole.at_u)

    -- The labels done, none of which breaks rule 4, and those to come.
    record Place (done rest : List (List ℕ)) : Type 0 where
      counted : (x : ℕ) → occurrences K x ls ≡ occurrences K x done + occurrences K x rest
      splits : (u v : ℕ) → Some (Beside u v) ls → Some (Beside u v) done ⊎ Some (Beside u v) rest
      part : (u v : ℕ) → Some (Beside u v) rest → Some (Beside u v) ls
      passed : Each (λ l. Good K ks es l × (breaks4 K ks es [] l ≡ false)) done
      coming : Each (Good K ks es) rest

    keeps : (done : List (List ℕ)) (l : List ℕ) (rest : List (List ℕ)) → Place done (l ∷ rest) → breaks4 K ks es done l ≡ false
        → Place (l ∷ done) rest
    unfolding occurrences breaks4
    keeps done l rest c q = record {
      counted = λ x. omega (arith, c.counted x);
      splits = λ u v s. ⊎_elim (λ a. inl (there a)) (λ a. onto u v a) (c.splits u v s);
      part = λ u v s. c.part u v (there s);
      passed = more (head c.coming, q) c.passed;
      coming = tail c.coming;
    }
      where
        onto : (u v : ℕ) → Some (Beside u v) (l ∷ rest) → Some (Beside u v) (l ∷ done) ⊎ Some (Beside u v) rest
        onto u v (here t) = inl (here t)
        onto u v (there s) = inr s

        head : Each (Good K ks es) (l ∷ rest) → Good K ks es l
        head (more p e) = p

        tail : Each (Good K ks es) (l ∷ rest) → Each (Good K ks es) rest
        tail (more p e) = e

    first_good : {l : List ℕ} {rest : List (List ℕ)} → Each (Good K ks es) (l ∷ rest) → Good K ks es l
    first_good (more p e) = p

    tells : (done : List (List ℕ)) (l : List ℕ) (rest : List (List ℕ)) → Place done (l ∷ rest) → breaks4 K ks es done l ≡ true
        → Unjoined K ks es ls done l rest
    unfolding occurrences breaks4
    tells done l rest c q =
        let few : (x : ℕ) → occurs K x l ≤ 1 = λ x. omega (arith, c.counted x, once x) in
        let a = breaks_strays K ks es one odd fit done l (first_good c.coming) few q in
        let u = a.u in
        let v = a.v in
        let g = a.wanted in
        let nowhere : Some (Beside a.u a.v) ls → ⊥ = λ s.
        ⊎_elim (λ d. omega (arith, c.counted (key u), once (key u), a.stands, some_stands u v d))
        (λ r. in_rest a.u a.v a.stands a.not_beside c r) (c.splits u v s) in
        record {
          u = u;
          v = v;
          apart = record {
            u_stored = g.u_stored;
            v_stored = g.v_stored;
            u_side = a.u_side;
            v_side = a.v_side;
            sole = g.sole;
            differ = g.differ;
            u_bases = g.u_bases;
            v_bases = g.v_bases;
            nowhere = nowhere;
          };
          here = a.stands;
          not_before = ⊎_elim
              (λ z. omega (arith, c.counted (key v), stands_once (wanted_back K ks es one odd fit g)))
              (λ z.
              let s : Some (Beside v u) done = find_some (key v) c.passed z
              (λ m p k. ⊎_elim (λ t. t) (λ t. never (breaks4 K ks es [] m) t p.1)
              (beside_or_breaks K ks es one odd fit (wanted_back K ks es one odd fit g) [] m p.0 k)) in
              absurd (omega (arith, c.counted (key u), once (key u), a.stands, some_stands u v (some_back v u s))))
              (lt_or_ge (occurrences K (key v) done) 1);
        }
      where
        in_rest : (u v : ℕ) → 1 ≤ occurs K (key u) l → (Together (key u) (key v) (kmers_of K ks es l) → ⊥) → Place done (l ∷ rest)
            → Some (Beside u v) (l ∷ rest) → ⊥
        in_rest u v h n c (here t) = n t
        in_rest u v h n c (there r) = omega (arith, c.counted (key u), once (key u), some_stands u v r)

    told : (done : List (List ℕ)) (l : List ℕ) (rest : List (List ℕ)) → Place done (l ∷ rest) → Unjoined K ks es ls done l rest
        → breaks4 K ks es done l ≡ true
    told done l rest c a =
        let p = a.apart in
        let g : Wanted K ks es one odd fit a.u p.u_side a.v p.v_side = record {
          u_stored = p.u_stored;
          v_stored = p.v_stored;
          sole = p.sole;
          differ = p.differ;
          u_bases = p.u_bases;
          v_bases = p.v_bases;
        } in
        ⊎_elim (λ t. absurd (p.nowhere (c.part a.u a.v (here t)))) (λ t. t)
        (beside_or_breaks K ks es one odd fit g done l (first_good c.coming) a.here)

    module _ (good : Each (Good K ks es) ls) where
      start : Place [] ls
      unfolding occurrences
      start = record { counted = λ x. omega arith; splits = λ u v s. inr s; part = λ u v s. s; passed = none; coming = good }

      -- The first label that breaks rule 4 is the lower of a pair not joined.
      pub lowest_4 : first_of (breaks4 K ks es) [] ls < length ls → Lowest (Unjoined K ks es ls) ls (first_of (breaks4 K ks es) [] ls)
      lowest_4 h = first_lowest (breaks4 K ks es) (Unjoined K ks es ls) Place keeps tells told ls start h

      -- Where no label breaks it, the list keeps rule 4.
      pub keeps_4 : length ls ≤ first_of (breaks4 K ks es) [] ls → Rule4 K ks es ls
      unfolding breaks4
      keeps_4 h u v s t hu hv o d nu nv =
          let g : Wanted K ks es one odd fit u s v t =
          record { u_stored = hu; v_stored = hv; sole = o; differ = d; u_bases = nu; v_bases = nv } in
          find_some (key u) (clear_good good (first_clear (breaks4 K ks es) [] ls h)) (omega (arith, stands_once g))
          (λ m p k. ⊎_elim (λ q. q) (λ q. never (breaks4 K ks es [] m) q p.1) (beside_or_breaks K ks es one odd fit g [] m p.0 k))
        where
          clear_good : {done ms : List (List ℕ)} → Each (Good K ks es) ms → Clear (breaks4 K ks es) done ms
              → Each (λ l. Good K ks es l × (breaks4 K ks es [] l ≡ false)) ms
          clear_good none clear_none = none
          clear_good (more p e) (clear_more q c) = more (p, q) (clear_good e c)

  -- A list with such a pair does not keep it.
  pub broken_4 : {ls done ms : List (List ℕ)} {i : ℕ} → At (Unjoined K ks es ls) done ms i → Rule4 K ks es ls → ⊥
  broken_4 (here a) r =
      let p = a.apart in
      p.nowhere (r a.u a.v p.u_side p.v_side p.u_stored p.v_stored p.sole p.differ p.u_bases p.v_bases)
  broken_4 (there a) r = broken_4 a r
