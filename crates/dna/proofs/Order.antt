-- Byte order: strict, and total. Assumes nothing.
use mathlib.Core.Path.{◌≡◌, refl, sym, ◌∙◌}
use mathlib.Core.Logic.{◌⊎◌, inl, inr, ⊎_elim}
use mathlib.Core.Bool.{true, false}
use mathlib.Core.List.{List, [], ◌∷◌}
use Prim.Native.Nat.{ℕ, zero, suc, ◌+◌, ◌≤◌, ◌<◌}
use native.Mathlib.Nat.{not-suc-le-zero, le_of_suc-le-suc}
use native.Mathlib.Decide.{dec_lt}
use native.Mathlib.Omega.{arith}
use borrow.Author.Tests.{lt-ltb, le-ltb, eq-eqb, ne_eqb}
use lib.Dec.{ltb, eqb}
use lib.ListN.{length, get_or}
use Rattle.lemmas.proofs.Tests.{never}
use Rattle.lemmas.proofs.Numbers.{same_test}
use Rattle.dna.specs.Order.{before}

-- The first bytes decide, unless they are alike.
pub head_less : {x y : ℕ} (xs ys : List ℕ) → x < y → before (x ∷ xs) (y ∷ ys) ≡ true
unfolding before
head_less {x} {y} xs ys h = rw (lt-ltb x y h)

pub head_same : {x y : ℕ} (xs ys : List ℕ) → x ≡ y → before (x ∷ xs) (y ∷ ys) ≡ before xs ys
unfolding before
head_same {x} {y} xs ys e =
    let a : ltb x y ≡ false = le-ltb x y (omega arith) in
    rw (a, eq-eqb x y e)

pub head_more : {x y : ℕ} (xs ys : List ℕ) → y < x → before (x ∷ xs) (y ∷ ys) ≡ false
unfolding before
head_more {x} {y} xs ys h =
    let a : ltb x y ≡ false = le-ltb x y (omega arith) in
    let b : eqb x y ≡ false = ne_eqb x y (λ e. omega arith) in
    rw (a, b)

-- No text stands before itself.
pub before_irrefl : (a : List ℕ) → before a a ≡ false
unfolding before
before_irrefl [] = refl
before_irrefl (x ∷ a) = head_same {x = x} {y = x} a a refl ∙ before_irrefl a

-- No two texts stand before each other.
pub before_asym : (a b : List ℕ) → before a b ≡ true → before b a ≡ false
unfolding before
before_asym [] [] h = refl
before_asym [] (y ∷ b) h = refl
before_asym (x ∷ a) [] h = never false h refl
before_asym (x ∷ a) (y ∷ b) h = go (before_asym a b) (dec_lt x y) (dec_lt y x)
  where
    go : (before a b ≡ true → before b a ≡ false) → Dec (x < y) → Dec (y < x) → before (y ∷ b) (x ∷ a) ≡ false
    go ih (yes l) d = head_more b a l
    go ih (no l) (yes m) = never (before (x ∷ a) (y ∷ b)) h (head_more a b m)
    go ih (no l) (no m) =
        let e : x ≡ y = omega arith in
        head_same b a (sym e) ∙ ih (sym (head_same a b e) ∙ h)

-- Two texts of which neither stands before the other are one.
pub before_same : (a b : List ℕ) → before a b ≡ false → before b a ≡ false → a ≡ b
unfolding before
before_same [] [] h k = refl
before_same [] (y ∷ b) h k = never true refl h
before_same (x ∷ a) [] h k = never true refl k
before_same (x ∷ a) (y ∷ b) h k = go (before_same a b) (dec_lt x y) (dec_lt y x)
  where
    go : (before a b ≡ false → before b a ≡ false → a ≡ b) → Dec (x < y) → Dec (y < x) → ◌≡◌ {A = List ℕ} (x ∷ a) (y ∷ b)
    go ih (yes l) d = never (before (x ∷ a) (y ∷ b)) (head_less a b l) h
    go ih (no l) (yes m) = never (before (y ∷ b) (x ∷ a)) (head_less b a m) k
    go ih (no l) (no m) =
        let e : x ≡ y = omega arith in
        let r = ih (sym (head_same a b e) ∙ h) (sym (head_same b a (sym e)) ∙ k) in cc

-- a stands before b, and c does not: a stands before c.
pub before_le : (a b c : List ℕ) → before a b ≡ true → before c b ≡ false → before a c ≡ true
unfolding before
before_le a [] c h k = never (before a []) h (none a)
  where
    none : (a : List ℕ) → before a [] ≡ false
    none [] = refl
    none (x ∷ a) = refl
before_le [] (y ∷ b) [] h k = never true refl k
before_le [] (y ∷ b) (z ∷ c) h k = refl
before_le (x ∷ a) (y ∷ b) [] h k = never true refl k
before_le (x ∷ a) (y ∷ b) (z ∷ c) h k = go (before_le a b c) (dec_lt x y) (dec_lt y x) (dec_lt z y) (dec_lt y z)
  where
    go : (before a b ≡ true → before c b ≡ false → before a c ≡ true) → Dec (x < y) → Dec (y < x) → Dec (z < y) → Dec (y < z) → before (x ∷ a) (z ∷ c) ≡ true
    go ih d₁ d₂ (yes m) d₄ = never (before (z ∷ c) (y ∷ b)) (head_less c b m) k
    go ih d₁ (yes l) (no m) d₄ = never (before (x ∷ a) (y ∷ b)) h (head_more a b l)
    go ih (yes l) (no n) (no m) d₄ = let u : x < z = omega arith in head_less a c u
    go ih (no l) (no n) (no m) (yes o) = let u : x < z = omega arith in head_less a c u
    go ih (no l) (no n) (no m) (no o) =
        let xy : x ≡ y = omega arith in
        let zy : z ≡ y = omega arith in
        let xz : x ≡ z = omega arith in
        head_same a c xz ∙ ih (sym (head_same a b xy) ∙ h) (sym (head_same c b zy) ∙ k)

-- Two texts are alike in the first m places.
abbrev pub Alike : List ℕ → List ℕ → ℕ → Type 0
Alike a b m = (t : ℕ) → t < m → get_or a t 0 ≡ get_or b t 0

pub alike_more : (a b : List ℕ) (m : ℕ) → Alike a b m → get_or a m 0 ≡ get_or b m 0 → Alike a b (m + 1)
alike_more a b m f e t h = go (dec_lt t m)
  where
    go : Dec (t < m) → get_or a t 0 ≡ get_or b t 0
    go (yes l) = f t l
    go (no l) = let q : t ≡ m = omega arith in rw q e

-- They are alike up to m, and the first is smaller there.
pub before_at : (a b : List ℕ) (m : ℕ) → m < length a → m < length b → Alike a b m → get_or a m 0 < get_or b m 0 → before a b ≡ true
unfolding before
before_at [] b m ha hb f h = absurd (not-suc-le-zero ha)
before_at (x ∷ a) [] m ha hb f h = absurd (not-suc-le-zero hb)
before_at (x ∷ a) (y ∷ b) zero ha hb f h = head_less a b h
before_at (x ∷ a) (y ∷ b) (suc m) ha hb f h =
    head_same a b (f 0 (omega arith)) ∙ before_at a b m (omega arith) (omega arith) (λ t l. f (suc t) (omega arith)) h

-- The second is smaller there.
pub after_at : (a b : List ℕ) (m : ℕ) → m < length a → m < length b → Alike a b m → get_or b m 0 < get_or a m 0
    → before a b ≡ false
after_at a b m ha hb f h = before_asym b a (before_at b a m hb ha (λ t l. sym (f t l)) h)

-- They are alike as far as both go: the shorter stands before the longer.
pub before_end : (a b : List ℕ) (m : ℕ) → Alike a b m → (length a ≤ m) ⊎ (length b ≤ m) → before a b ≡ ltb (length a) (length b)
unfolding before
before_end [] [] m f h = refl
before_end [] (y ∷ b) m f h = sym (lt-ltb 0 (suc (length b)) (omega arith))
before_end (x ∷ a) [] m f h = sym (le-ltb (suc (length a)) 0 (omega arith))
before_end (x ∷ a) (y ∷ b) zero f h = absurd (⊎_elim not-suc-le-zero not-suc-le-zero h)
before_end (x ∷ a) (y ∷ b) (suc m) f h =
    let e : x ≡ y = f 0 (omega arith) in
    head_same a b e
    ∙ before_end a b m (λ t l. f (suc t) (omega arith)) (⊎_elim (λ l. inl (le_of_suc-le-suc l)) (λ l. inr (le_of_suc-le-suc l)) h)
    ∙ same_test (length a) (length b) (suc (length a)) (suc (length b)) (λ l. omega arith) (λ l. omega arith)
