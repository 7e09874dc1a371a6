-- The measures of the cycle of a stage. Each is 4 times the rounds left and a number below 4 for the place in the round (`Measures`).
use Rattle.passes.specs.PassAnswers.{matrix_of}
use Rattle.reducer.proofs.Measures.{choice_measure, row_measure, column_measure}
use Rattle.reducer.proofs.stage.+choose_pivot_column_pass_row_pass.Given as goal

abbrev pub decreases-choose_pivot : goal.decreases-choose_pivot
decreases-choose_pivot l = choice_measure l.rounds

abbrev pub decreases-column_pass : goal.decreases-column_pass
decreases-column_pass l = column_measure l.rounds l.workspace.matrix.width l.k (matrix_of l.workspace l.w.now)

abbrev pub decreases-row_pass : goal.decreases-row_pass
decreases-row_pass l = row_measure l.rounds
