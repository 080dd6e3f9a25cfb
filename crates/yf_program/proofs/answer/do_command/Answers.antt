use Rattle.yf_program.proofs.answer.do_command.Goals as goal

pub returns-in-Events : goal.returns-in-Events
returns-in-Events g c = rw c.in-Events.is c.do_scoped.ensures.does

pub returns-in-Check : goal.returns-in-Check
returns-in-Check g c = rw c.in-Check.is c.do_check.ensures

pub returns-in-Fmt : goal.returns-in-Fmt
returns-in-Fmt g c = rw c.in-Fmt.is c.do_fmt.ensures

pub returns-in-Server : goal.returns-in-Server
returns-in-Server g c = rw c.in-Server.is c.do_server.ensures
