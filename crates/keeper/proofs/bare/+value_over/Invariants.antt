use Rattle.keeper.proofs.bare.+value_over.Given as goal

abbrev pub decreases-value_over : goal.decreases-value_over
decreases-value_over g l = l.run.row
