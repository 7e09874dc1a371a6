-- `put_digits` meets its contract: the digits of a tenth are put, and the last digit behind them (`digits-large`). The measure is the number itself.
use Rattle.text.proofs.writer.Writer.+put_digits.Given as goal

abbrev pub decreases-put_digits : goal.decreases-put_digits
decreases-put_digits l = l.n
