-- What the program's states and calls stand for.
use Rattle.legality.specs.Checks as s
use Rattle.lives.specs.Draft as d
use Rattle.lives.specs.declared.states.State.{State}
use Rattle.lives.specs.declared.states.State.TheVariants.{Fresh, Open, Closed}
use Rattle.lives.specs.declared.states.Call.{Call}
use Rattle.lives.specs.declared.states.Call.TheVariants.{Start, Add, Close}

abbrev pub state_of : State → d.State
state_of Fresh = d.fresh
state_of (Open k) = d.opened k.mark
state_of Closed = d.done

abbrev pub call_of : Call → s.Call
call_of Start = s.starts
call_of Add = s.adds
call_of Close = s.closes
