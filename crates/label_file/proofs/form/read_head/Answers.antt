-- The form, then K. Assumes nothing.
use mathlib.Core.Path.{◌≡◌, ◌∙◌}
use mathlib.Core.Bool.{true, false}
use native.Mathlib.Omega.{arith}
use Rattle.std.proofs.Common.{rules, tests}
use Rattle.std.proofs.lemmas.Bool.Decides.{nat_tests}
use Rattle.std.proofs.lemmas.Result.{err_from_is_err_and}
use Rattle.kmer.specs.Kmer.{ok_k}
use Rattle.label_file.specs.LabelFile.{k_in, cutoff_in}
use Rattle.label_file.proofs.Heads.{on_damaged, on_bad_K, on_sound}
use Rattle.label_file.proofs.form.read_head.Goals as goal

pub returns-in_err-form : goal.returns-in_err-form
returns-in_err-form c =
    let said = c.in_err-form.ensures in
    let e = err_from_is_err_and c.from_residual.result c.from_residual.ensures.1 in
    rw (e.1, e.2) (λ doing b. rw said.0 (on_damaged c.args.file.now doing b said.1))

pub returns-then-not-contains : goal.returns-then-not-contains
returns-then-not-contains c = λ doing b.
    let file = c.args.file.now in
    let bad : ok_k (k_in file) ≡ false = search (rules, tests) in
    on_bad_K file doing b c.in_ok-form.ensures bad

pub returns : goal.returns
returns c =
    let file = c.args.file.now in
    let s = c.in_ok-form.ensures in
    let good : ok_k (k_in file) ≡ true = search (rules, tests) in
    let e : c.from_le_bytes-cutoff.result ≡ cutoff_in file = omega arith in
    (s, λ doing b. rw (e, c.from-k.ensures) (on_sound file doing b s good))
