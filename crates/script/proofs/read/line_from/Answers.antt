use Rattle.script.proofs.read.line_from.Goals as goal

pub returns-in-Submit : goal.returns-in-Submit
returns-in-Submit c = rw c.in-Submit.is c.submit_line.ensures

pub returns-in-Send : goal.returns-in-Send
returns-in-Send c = rw c.in-Send.is c.bare_line.ensures

pub returns-in-Receive : goal.returns-in-Receive
returns-in-Receive c = rw c.in-Receive.is c.bare_line-in-Receive.ensures

pub returns-in-Collect : goal.returns-in-Collect
returns-in-Collect c = rw c.in-Collect.is c.bare_line-in-Collect.ensures

pub returns-in-TimeOut : goal.returns-in-TimeOut
returns-in-TimeOut c = rw c.in-TimeOut.is c.bare_line-in-TimeOut.ensures

pub returns-in-Plan : goal.returns-in-Plan
returns-in-Plan c = rw c.in-Plan.is c.plan_line.ensures
