-- The first label that a test finds: it is the lowest of which holds what the test tells. Assumes nothing.
use Prim.Native.Nat.{ℕ, zero, suc, ◌≤◌, ◌<◌}
use mathlib.Core.Path.{◌≡◌, refl}
use mathlib.Core.Logic.{⊎_elim}
use mathlib.Core.Bool.{Bool, true, false}
use mathlib.Core.List.{List, [], ◌∷◌}
use native.Mathlib.Omega.{arith}
use lib.ListN.{length}
use Rattle.lemmas.proofs.Numbers.{lt_or_ge}
use Rattle.rules.specs.Verdict.{Test, first_of}
use Rattle.rules.specs.Judged.{Concern, At, At.here, At.there, Lowest}

-- A test finds none of some labels.
pub data Clear (test : Test) : List (List ℕ) → List (List ℕ) → Type 0 where
  clear_none : {done : List (List ℕ)} → Clear test done []
  clear_more : {done ls : List (List ℕ)} {l : List ℕ} → test done l ≡ false → Clear test (l ∷ done) ls → Clear test done (l ∷ ls)

module _ (test : Test) (done : List (List ℕ)) (l : List ℕ) (ls : List (List ℕ)) where
  pub first_here : test done l ≡ true → first_of test done (l ∷ ls) ≡ 0
  unfolding first_of
  first_here e = rw e

  pub first_on : test done l ≡ false → first_of test done (l ∷ ls) ≡ suc (first_of test (l ∷ done) ls)
  unfolding first_of
  first_on e = rw e

pub first_nil : (test : Test) (done : List (List ℕ)) → first_of test done [] ≡ 0
unfolding first_of
first_nil test done = refl

pub first_le : (test : Test) (done ls : List (List ℕ)) → first_of test done ls ≤ length ls
first_le test done [] = omega (arith, first_nil test done)
first_le test done (l ∷ ls) = go (first_le test (l ∷ done) ls) (test done l) refl
  where
    go : first_of test (l ∷ done) ls ≤ length ls → (t : Bool) → test done l ≡ t → first_of test done (l ∷ ls) ≤ suc (length ls)
    go ih true e = omega (arith, first_here test done l ls e)
    go ih false e = omega (arith, first_on test done l ls e, ih)

pub first_clear : (test : Test) (done ls : List (List ℕ)) → length ls ≤ first_of test done ls → Clear test done ls
first_clear test done [] h = clear_none
first_clear test done (l ∷ ls) h = go (first_clear test (l ∷ done) ls) (test done l) refl
  where
    go : (length ls ≤ first_of test (l ∷ done) ls → Clear test (l ∷ done) ls) → (t : Bool) → test done l ≡ t → Clear test done (l ∷ ls)
    go ih true e = absurd (omega (arith, first_here test done l ls e))
    go ih false e = clear_more e (ih (omega (arith, first_on test done l ls e)))

-- A statement that a test tells, where what is known of the labels done and to come is kept from one to the next.
module _ (test : Test) (P : Concern) (C : List (List ℕ) → List (List ℕ) → Type 0)
    (keeps : (done : List (List ℕ)) (l : List ℕ) (ls : List (List ℕ)) → C done (l ∷ ls) → test done l ≡ false → C (l ∷ done) ls)
    (sound : (done : List (List ℕ)) (l : List ℕ) (ls : List (List ℕ)) → C done (l ∷ ls) → test done l ≡ true → P done l ls)
    (complete : (done : List (List ℕ)) (l : List ℕ) (ls : List (List ℕ)) → C done (l ∷ ls) → P done l ls → test done l ≡ true) where
  found : (done ls : List (List ℕ)) → C done ls → first_of test done ls < length ls → At P done ls (first_of test done ls)
  found done [] c h = absurd (omega arith)
  found done (l ∷ ls) c h = go (found (l ∷ done) ls) (test done l) refl
    where
      go : (C (l ∷ done) ls → first_of test (l ∷ done) ls < length ls → At P (l ∷ done) ls (first_of test (l ∷ done) ls))
          → (t : Bool) → test done l ≡ t → At P done (l ∷ ls) (first_of test done (l ∷ ls))
      go ih true e = rw (first_here test done l ls e) (here (sound done l ls c e))
      go ih false e =
          let f = first_on test done l ls e in
          rw f (there (ih (keeps done l ls c e) (omega (arith, f))))

  lower : (done ls : List (List ℕ)) → C done ls → (j : ℕ) → j < first_of test done ls → At P done ls j → ⊥
  lower done [] c j h a = elim a [ ]
  lower done (l ∷ ls) c zero h (here p) = omega (arith, first_here test done l ls (complete done l ls c p))
  lower done (l ∷ ls) c (suc j) h (there a) = go (lower (l ∷ done) ls) (test done l) refl
    where
      go : (C (l ∷ done) ls → (i : ℕ) → i < first_of test (l ∷ done) ls → At P (l ∷ done) ls i → ⊥) → (t : Bool) → test done l ≡ t → ⊥
      go ih true e = omega (arith, first_here test done l ls e)
      go ih false e = ih (keeps done l ls c e) j (omega (arith, first_on test done l ls e)) a

  pub first_lowest : (ls : List (List ℕ)) → C [] ls → first_of test [] ls < length ls → Lowest P ls (first_of test [] ls)
  first_lowest ls c h = record { concerned = found [] ls c h; none_lower = λ j l a. lower [] ls c j l a }

  pub first_nowhere : (ls : List (List ℕ)) → C [] ls → length ls ≤ first_of test [] ls → (j : ℕ) → At P [] ls j → ⊥
  first_nowhere ls c h j a = lower [] ls c j (omega (arith, at_lt a)) a
    where
      at_lt : {done ms : List (List ℕ)} {i : ℕ} → At P done ms i → i < length ms
      at_lt (here p) = omega arith
      at_lt (there b) = omega (arith, at_lt b)

-- There is one lowest label.
pub lowest_one : {P : Concern} {ls : List (List ℕ)} {i j : ℕ} → Lowest P ls i → Lowest P ls j → i ≡ j
lowest_one {i = i} {j = j} a b = ⊎_elim (λ l. absurd (b.none_lower i l a.concerned))
    (λ l. ⊎_elim (λ m. absurd (a.none_lower j m b.concerned)) (λ m. omega arith) (lt_or_ge j i)) (lt_or_ge i j)
