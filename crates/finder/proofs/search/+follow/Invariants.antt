-- The left gates ahead.
use Rattle.finder.proofs.search.+follow.Given as goal

abbrev pub decreases-follow : goal.decreases-follow
decreases-follow l = l.ahead
