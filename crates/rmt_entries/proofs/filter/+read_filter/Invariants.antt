use Rattle.rmt_entries.proofs.filter.+read_filter.Given as goal

abbrev pub decreases-read_filter : goal.decreases-read_filter
decreases-read_filter l = l.depth
