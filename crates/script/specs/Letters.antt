-- The letters by which scripts and printed lines name a call, a port and the fate of a frame.
use Rattle.std.specs.Prelude.{ℕ}
use Rattle.rules.specs.declared.state.PortId.{PortId}
use Rattle.rules.specs.declared.state.PortId.TheVariants.{A, B}
use Rattle.lane.specs.declared.noisy.Fate.{Fate}
use Rattle.lane.specs.declared.noisy.Fate.TheVariants.{Keep, Lose, Spoil}
use Rattle.script.specs.declared.call.Call.{Call}
use Rattle.script.specs.declared.call.Call.TheVariants.{Submit, Send, Receive, Collect, TimeOut, Plan}

-- h, s, r, c, o and p
abbrev pub call_letter : Call → ℕ
call_letter Submit = 104
call_letter Send = 115
call_letter Receive = 114
call_letter Collect = 99
call_letter TimeOut = 111
call_letter Plan = 112

-- a and b
abbrev pub port_letter : PortId → ℕ
port_letter A = 97
port_letter B = 98

-- k, l and s
abbrev pub fate_letter : Fate → ℕ
fate_letter Keep = 107
fate_letter Lose = 108
fate_letter Spoil = 115
