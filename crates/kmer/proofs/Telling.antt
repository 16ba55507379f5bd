-- What this crate's results say can be read back: no two of them say the same. Assumes nothing.
use mathlib.Core.Path.{◌≡◌, refl, sym, ap, ◌∙◌}
use mathlib.Core.Bool.{Bool}
use mathlib.Core.List.{List, [], ◌∷◌}
use Prim.Native.Nat.{ℕ}
use lib.ListN.{get_or}
use Rattle.std.proofs.Common.{Result, Ok, Err, IfOk}
use Rattle.dna.specs.Answer.{Answer, gives, refuses, Filled}
use Rattle.dna.specs.Calls.{code_in}
use Rattle.dna.specs.declared.Base.{Base}
use Rattle.dna.proofs.Calls.{code_inj}
use Rattle.kmer.specs.Says.{value_of, kmer_of, refusal, says, number_in, Answers, Spells}
use Rattle.kmer.specs.declared.Kmer.{Kmer}
use Rattle.kmer.specs.declared.KmerError.{KmerError}
use Rattle.kmer.specs.declared.KmerError.TheVariants.{UnsupportedK, TooShort, InvalidBase, NoRoom, OutOfRange, NotBelow}

-- The refusal with a number and values, by document 01's table: 14 is past the list's end and read as its default, and
-- no call here has another number that is not listed.
abbrev error_in : ℕ → List ℕ → KmerError
error_in r values =
    get_or
    (NotBelow ∷ UnsupportedK (get_or values 0 0) ∷ TooShort (get_or values 0 0) ∷ InvalidBase (get_or values 0 0) (get_or values 1 0)
    ∷ NotBelow ∷ NotBelow ∷ NotBelow ∷ NotBelow ∷ NotBelow ∷ NoRoom ∷ OutOfRange ∷ [])
    r NotBelow

-- What a call with an answer returns: g of what the answer gives, or the refusal in it.
abbrev pub returned : {A B : Type 0} → (B → A) → Answer B → Result A KmerError
returned g (gives b) = Ok (g b)
returned g (refuses r values) = Err (error_in r values)

refusal_back : {A B : Type 0} (g : B → A) (e : KmerError) → returned g (refusal e) ≡ Err e
refusal_back g (UnsupportedK K) = refl
refusal_back g (TooShort n) = refl
refusal_back g (InvalidBase place byte) = refl
refusal_back g NoRoom = refl
refusal_back g OutOfRange = refl
refusal_back g NotBelow = refl

-- A refusal gives nothing.
pub never_gives : {A P : Type 0} (e : KmerError) {a : A} → refusal e ≡ gives a → P
never_gives (UnsupportedK K) h = cc
never_gives (TooShort n) h = cc
never_gives (InvalidBase place byte) h = cc
never_gives NoRoom h = cc
never_gives OutOfRange h = cc
never_gives NotBelow h = cc

-- No two refusals are the same answer.
refusal_one : {A : Type 0} (e f : KmerError) → refusal {A = A} e ≡ refusal f → e ≡ f
refusal_one {A} e f h =
    let g : A → A = λ a. a in
    let p : ◌≡◌ {A = Result A KmerError} (Err e) (Err f) = sym (refusal_back g e) ∙ ap (returned g) h ∙ refusal_back g f in
    cc

-- A result is known by what it says.
pub told : {A : Type 0} (r : Result A KmerError) → r ≡ returned (λ a. a) (says (λ a. a) r)
told (Ok a) = refl
told {A} (Err e) = sym (refusal_back (λ (a : A). a) e)

-- An answer fixes what a call that makes a k-mer returns.
pub kmer_told : {r : Result Kmer KmerError} {a : Answer ℕ} → Answers r a → r ≡ returned kmer_of a
kmer_told {r} {a} t = go r t.answer t.kmer
  where
    go : (r : Result Kmer KmerError) → says value_of r ≡ a → IfOk r (λ x. x ≡ kmer_of (number_in a))
        → r ≡ returned kmer_of a
    go (Ok x) e k = ap Ok (k ∙ ap (λ (z : Answer ℕ). kmer_of (number_in z)) (sym e)) ∙ ap (returned kmer_of) e
    go (Err d) e k = sym (refusal_back kmer_of d) ∙ ap (returned kmer_of) e

-- ---- so two results of one call are one

-- Where f tells values apart, so does what is said by f.
says_one : {A B : Type 0} (f : A → B) → ((x y : A) → f x ≡ f y → x ≡ y) → (r s : Result A KmerError)
    → says f r ≡ says f s → r ≡ s
says_one f one (Ok x) (Ok y) h = ap Ok (one x y cc)
says_one f one (Ok x) (Err e) h = never_gives e (sym h)
says_one f one (Err e) (Ok x) h = never_gives e h
says_one f one (Err d) (Err e) h = ap Err (refusal_one d e h)

pub answers_one : {r s : Result Kmer KmerError} {a : Answer ℕ} → Answers r a → Answers s a → r ≡ s
answers_one t u = kmer_told t ∙ sym (kmer_told u)

pub base_one : (r s : Result Base KmerError) → says code_in r ≡ says code_in s → r ≡ s
base_one = says_one code_in code_inj

pub test_one : (r s : Result Bool KmerError) → says (λ t. t) r ≡ says (λ t. t) s → r ≡ s
test_one = says_one (λ t. t) (λ s t e. e)

pub spells_one : (r s : Result ℕ KmerError) {out out' : List ℕ} {f : Filled} → Spells r out f → Spells s out' f
    → (r ≡ s) × (out ≡ out')
spells_one r s t u = (says_one (λ n. n) (λ m n e. e) r s (t.answer ∙ sym u.answer), t.slice ∙ sym u.slice)
