-- What a line of a script says, and how it is written.
use Rattle.std.specs.Prelude.{ℕ, List, vec_items}
use Rattle.rules.specs.declared.state.PortId.{PortId}
use Rattle.lane.specs.declared.noisy.Fate.{Fate}
use Rattle.script.specs.declared.call.Call.{Call}
use Rattle.script.specs.declared.call.Call.TheVariants as call
use Rattle.script.specs.declared.line.Line.{Line}
use Rattle.script.specs.declared.line.Line.TheVariants.{Submit, Send, Receive, Collect, TimeOut, Plan}

-- A call at a port, with the load to submit or the plan for the lane that the port writes.
pub data Said : Type 0 where
  submit : PortId → List ℕ → Said
  send : PortId → Said
  receive : PortId → Said
  collect : PortId → Said
  time_out : PortId → Said
  plan : PortId → List Fate → Said

abbrev pub said_by : Line → Said
said_by (Submit port load) = submit port (vec_items load)
said_by (Send port) = send port
said_by (Receive port) = receive port
said_by (Collect port) = collect port
said_by (TimeOut port) = time_out port
said_by (Plan port fates) = plan port fates

abbrev pub call_of : Said → Call
call_of (submit port load) = call.Submit
call_of (send port) = call.Send
call_of (receive port) = call.Receive
call_of (collect port) = call.Collect
call_of (time_out port) = call.TimeOut
call_of (plan port fates) = call.Plan

abbrev pub port_of : Said → PortId
port_of (submit port load) = port
port_of (send port) = port
port_of (receive port) = port
port_of (collect port) = port
port_of (time_out port) = port
port_of (plan port fates) = port
