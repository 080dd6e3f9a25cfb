-- Consequences of the life cycle.
use Rattle.std.specs.Prelude.{◌≡◌, Bool, true, false}
use Rattle.yf_json_rpc.specs.Messages.{Kind, request, notification, response, invalid}
use Rattle.yf_server.specs.declared.lifecycle.Phase.{Phase}
use Rattle.yf_server.specs.declared.lifecycle.Task.{Task}
use Rattle.yf_server.specs.declared.lifecycle.Task.TheVariants.{Initialize, Shutdown, Request, Fail, Notification, Ignore, Exit}
use Rattle.yf_server.specs.Lifecycle.{step_of}

-- whether the task sends a response
abbrev pub is_answer : Task → Bool
is_answer Initialize = true
is_answer Shutdown = true
is_answer Request = true
is_answer (Fail code) = true
is_answer Notification = false
is_answer Ignore = false
is_answer (Exit is_success) = false

-- A request wants a response, and so does an invalid message.
abbrev pub wants_answer : Kind → Bool
wants_answer (request id method) = true
wants_answer (notification method) = false
wants_answer (response id) = false
wants_answer invalid = true

-- In every phase, exactly the messages that want a response get one.
abbrev pub EachIsAnswered : Type 0
EachIsAnswered = (phase : Phase) (message : Kind) → is_answer (step_of phase message).task ≡ wants_answer message
