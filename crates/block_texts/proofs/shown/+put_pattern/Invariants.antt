use Rattle.block_texts.proofs.shown.+put_pattern.Given as goal

abbrev pub decreases-put_pattern : goal.decreases-put_pattern
decreases-put_pattern l = l.fuel
