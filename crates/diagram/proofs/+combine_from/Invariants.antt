-- `combine_from`: known from the cache, full in the low or in the high branches, or the node over both. The measure is the levels that remain.
-- Assumes nothing.
use Rattle.diagram.proofs.+combine_from.Given as goal

abbrev pub decreases-combine_from : goal.decreases-combine_from
decreases-combine_from l = l.left
