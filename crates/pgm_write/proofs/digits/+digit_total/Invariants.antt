use Rattle.pgm_write.proofs.digits.+digit_total.Given as goal

abbrev pub decreases-digit_total : goal.decreases-digit_total
decreases-digit_total l = l.x
