-- Each turn takes one line. Assumes nothing.
use lib.ListN.{length}
use Rattle.label_text.proofs.Breaks.{lines_after}
use Rattle.label_text.proofs.Turns.{Partly}
use Rattle.label_text.proofs.packing.pack_lines.Given as goal

abbrev pub invariant-loop-line : goal.invariant-loop-line
invariant-loop-line l =
    Partly l.k l.cutoff l.text l.fasta l.out l.open.at l.open.size (lines_after l.text (length l.yielded))
