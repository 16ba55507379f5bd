-- The pairs that pass the test are the entries of the definition. Assumes nothing.
use Rattle.std.proofs.Common.{◌≡◌, ℕ, zero, suc, ◌+◌, ◌≤◌, Bool, leb, ◌&&◌, List, [], ◌∷◌, length, take, refl, sym, ap, ◌∙◌, not-suc-le-zero, le_of_suc-le-suc, arith, rules, tests}
use Rattle.std.specs.List.{zip, list_all}
use Rattle.std.proofs.lemmas.Bool.{false_from_ne_true}
use Rattle.std.proofs.lemmas.Iterator.{YieldsList-from_slice, YieldsList-from_zip}
use Rattle.std.proofs.lemmas.Iterator.Search.{all_from_yields_List}
use Rattle.label_index.specs.Entries.{within}
use Rattle.label_index.proofs.Entries.{within_long}
use Rattle.label_index.proofs.lie_within.Goals as goal

abbrev lies : List ℕ → ℕ × ℕ → Bool
lies text entry = leb (entry.0 + entry.1) (length text)

each_lies : (text : List ℕ) (count : ℕ) (starts lengths : List ℕ) → count ≤ length starts → count ≤ length lengths
    → list_all (lies text) (zip (take count starts) (take count lengths)) ≡ within text count starts lengths
unfolding within
each_lies text zero starts lengths a b = refl
each_lies text (suc count) [] lengths a b = absurd (not-suc-le-zero a)
each_lies text (suc count) (s ∷ starts) [] a b = absurd (not-suc-le-zero b)
each_lies text (suc count) (s ∷ starts) (n ∷ lengths) a b =
    ap (λ t. leb (s + n) (length text) && t)
    (each_lies text count starts lengths (le_of_suc-le-suc a) (le_of_suc-le-suc b))

pub returns-then-starts-count : goal.returns-then-starts-count
returns-then-starts-count c = sym (false_from_ne_true _ (λ t. omega (arith, within_long _ _ _ _ t)))

pub returns : goal.returns
returns c =
    let a = c.args in
    all_from_yields_List (lies a.labels.now) c.all.new.self _ _ c.all.ensures.ran
    (YieldsList-from_zip (YieldsList-from_slice (take a.count a.starts.now) (cc))
    (YieldsList-from_slice (take a.count a.lengths.now) (cc))) (λ x b q k. search (rules, tests))
    ∙ each_lies _ _ _ _ c.if-starts-count.false c.if-lengths-count.false
