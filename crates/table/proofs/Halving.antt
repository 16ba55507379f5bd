-- Halving, a turn at a time, and where it ends if the places that pass come first. Assumes nothing.
use mathlib.Core.Path.{◌≡◌, refl, sym, ◌∙◌}
use mathlib.Core.Bool.{Bool, true, false}
use Prim.Native.Nat.{ℕ, zero, suc, ◌+◌, ◌-◌, ◌/◌, ◌≤◌, ◌<◌}
use native.Mathlib.Decide.{dec_lt}
use native.Mathlib.Omega.{arith}
use borrow.Author.Tests.{lt-ltb, le-ltb}
use Rattle.lemmas.proofs.Tests.{never}
use Rattle.table.specs.Search.{halving}

abbrev pub middle : ℕ → ℕ → ℕ
middle lo hi = lo + (hi - lo) / 2

module _ (passes : ℕ → Bool) where
  halve_up : (most lo hi : ℕ) → lo < hi → passes (middle lo hi) ≡ true
      → halving passes (suc most) lo hi ≡ halving passes most (middle lo hi + 1) hi
  unfolding halving
  halve_up most lo hi h e = rw (lt-ltb lo hi h, e)

  halve_down : (most lo hi : ℕ) → lo < hi → passes (middle lo hi) ≡ false
      → halving passes (suc most) lo hi ≡ halving passes most lo (middle lo hi)
  unfolding halving
  halve_down most lo hi h e = rw (lt-ltb lo hi h, e)

  halve_end : (most lo hi : ℕ) → hi ≤ lo → halving passes most lo hi ≡ lo
  unfolding halving
  halve_end zero lo hi h = refl
  halve_end (suc most) lo hi h = rw (le-ltb lo hi h)

  -- What is left of the search from l to h is the whole of it, and halving it often enough is allowed.
  pub record Left (n l h lo hi : ℕ) : Type 0 where
    pub most : ℕ
    pub enough : hi - lo ≤ most
    pub same : halving passes n l h ≡ halving passes most lo hi

  pub left_all : (n l h : ℕ) → h ≤ n → Left n l h l h
  left_all n l h e = record { most = n; enough = omega arith; same = refl }

  module _ {n l h lo hi : ℕ} (left : Left n l h lo hi) where
    pub left_above : lo < hi → passes (middle lo hi) ≡ true → Left n l h (middle lo hi + 1) hi
    left_above k e = go left.most left.enough left.same
      where
        go : (m : ℕ) → hi - lo ≤ m → halving passes n l h ≡ halving passes m lo hi → Left n l h (middle lo hi + 1) hi
        go zero u s = absurd (omega arith)
        go (suc m) u s = record { most = m; enough = omega arith; same = s ∙ halve_up m lo hi k e }

    pub left_below : lo < hi → passes (middle lo hi) ≡ false → Left n l h lo (middle lo hi)
    left_below k e = go left.most left.enough left.same
      where
        go : (m : ℕ) → hi - lo ≤ m → halving passes n l h ≡ halving passes m lo hi → Left n l h lo (middle lo hi)
        go zero u s = absurd (omega arith)
        go (suc m) u s = record { most = m; enough = omega arith; same = s ∙ halve_down m lo hi k e }

    pub left_none : hi ≤ lo → lo ≡ halving passes n l h
    left_none k = sym (left.same ∙ halve_end left.most lo hi k)

  -- Where all places before r pass and none from r on, halving ends at r.
  module _ (r hi₀ : ℕ) (before : (i : ℕ) → i < r → passes i ≡ true)
      (after : (i : ℕ) → r ≤ i → i < hi₀ → passes i ≡ false) where
    pub halving_ends : (most lo hi : ℕ) → hi - lo ≤ most → lo ≤ r → r ≤ hi → hi ≤ hi₀ → halving passes most lo hi ≡ r
    halving_ends zero lo hi u l h b = halve_end zero lo hi (omega arith) ∙ omega arith
    halving_ends (suc most) lo hi u l h b = go (halving_ends most) (dec_lt lo hi) (passes (middle lo hi)) refl
      where
        go : ((lo hi : ℕ) → hi - lo ≤ most → lo ≤ r → r ≤ hi → hi ≤ hi₀ → halving passes most lo hi ≡ r)
            → Dec (lo < hi) → (t : Bool) → passes (middle lo hi) ≡ t → halving passes (suc most) lo hi ≡ r
        go ih (no k) t e = halve_end (suc most) lo hi (omega arith) ∙ omega arith
        go ih (yes k) true e = halve_up most lo hi k e
            ∙ ih (middle lo hi + 1) hi (omega arith) (high (dec_lt (middle lo hi) r)) h b
          where
            high : Dec (middle lo hi < r) → middle lo hi + 1 ≤ r
            high (yes m) = omega arith
            high (no m) = never (passes (middle lo hi)) e (after (middle lo hi) (omega arith) (omega arith))
        go ih (yes k) false e = halve_down most lo hi k e
            ∙ ih lo (middle lo hi) (omega arith) l (low (dec_lt (middle lo hi) r)) (omega arith)
          where
            low : Dec (middle lo hi < r) → r ≤ middle lo hi
            low (yes m) = never (passes (middle lo hi)) (before (middle lo hi) m) e
            low (no m) = omega arith
