use Rattle.block_texts.proofs.shown.+put_let_pattern.Given as goal

abbrev pub decreases-put_let_pattern : goal.decreases-put_let_pattern
decreases-put_let_pattern l = l.fuel
