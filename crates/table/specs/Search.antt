-- Binary search in a list of keys. Assumes nothing.
use Rattle.std.specs.Prelude.{ℕ, zero, suc, ◌+◌, ◌-◌, ◌*◌, ◌/◌, min, Bool, cond, ◌&&◌, List, ltb, eqb, length, get_or, Result, Ok, Err}
use Rattle.kmer.specs.Kmer.{joined}

-- Key i of a slice of words.
abbrev pub key : List ℕ → ℕ → ℕ
key keys i = joined (get_or keys (2 * i) 0) (get_or keys (2 * i + 1) 0)

-- The places from lo up to hi are halved, at most so often: where the middle one passes the test, on with those above
-- it, else with those below. What is left is the first place that fails, if those that pass come first.
unfoldable pub halving : (ℕ → Bool) → ℕ → ℕ → ℕ → ℕ
halving passes zero lo hi = lo
halving passes (suc most) lo hi =
    let middle = lo + (hi - lo) / 2 in
    let above = halving passes most (middle + 1) hi in
    let below = halving passes most lo middle in
    let next = cond (passes middle) above below in
    cond (ltb lo hi) next lo

-- The place at which the search for x between two places ends.
unfoldable pub place_between : List ℕ → ℕ → ℕ → ℕ → ℕ
place_between ks lo hi x = halving (λ i. ltb (get_or ks i 0) x) (length ks) lo hi

-- Ok: x stands at that place. Err: it is not found between the two, which are cut to the list.
unfoldable pub find_between : List ℕ → ℕ → ℕ → ℕ → Result ℕ ℕ
find_between ks lo hi x =
    let end = min hi (length ks) in
    let i = place_between ks (min lo end) end x in
    cond (ltb i end && eqb (get_or ks i 0) x) (Ok i) (Err i)

-- The place at which the search for x among all ends.
unfoldable pub place_of : List ℕ → ℕ → ℕ
place_of ks x = halving (λ i. ltb (get_or ks i 0) x) (length ks) 0 (length ks)

-- Ok: x stands at that place. Err: it would be put in there.
unfoldable pub find_in : List ℕ → ℕ → Result ℕ ℕ
find_in ks x =
    let i = place_of ks x in
    cond (ltb i (length ks) && eqb (get_or ks i 0) x) (Ok i) (Err i)
