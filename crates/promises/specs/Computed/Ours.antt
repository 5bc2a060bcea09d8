-- Our own four calls: what the contracts of the public functions name. No demand speaks of them.
use Rattle.accept.specs.Computed.Checks.{verdict}
use Rattle.lookup.specs.Computed.Answers.{lookup_of}
use Rattle.caller.specs.Computed.Caller.{step_in}
use Rattle.trace.specs.Computed.Trace.{trace_of}
use Rattle.promises.specs.Calls.{Calls}

-- what the contracts of our four functions name
unfoldable pub ours : Calls
ours = record { check = verdict; lookup = lookup_of; step = step_in; trace = trace_of }
