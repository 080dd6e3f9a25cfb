-- The life cycle of a server: `initialize`, then any requests and notifications, then `shutdown`, then `exit`.
use Rattle.std.specs.Prelude.{ℕ, List, Bool, true, false, codes, bytes_eq, if◌then◌else◌}
use Rattle.yf_json_rpc.specs.declared.error_code.ErrorCode.TheVariants.{InvalidRequest, ServerNotInitialized}
use Rattle.yf_json_rpc.specs.Messages.{Kind, request, notification, response, invalid}
use Rattle.yf_server.specs.declared.lifecycle.Phase.{Phase}
use Rattle.yf_server.specs.declared.lifecycle.Phase.TheVariants.{Fresh, Running, ShutDown}
use Rattle.yf_server.specs.declared.lifecycle.Step.{Step}
use Rattle.yf_server.specs.declared.lifecycle.Task.TheVariants as Task

-- the step for a request
abbrev pub request_step : Phase → List ℕ → Step
request_step Fresh method =
    if bytes_eq method (codes "initialize") then record { phase = Running; task = Task.Initialize }
    else record { phase = Fresh; task = Task.Fail ServerNotInitialized }
request_step Running method =
    if bytes_eq method (codes "initialize") then record { phase = Running; task = Task.Fail InvalidRequest }
    else (if bytes_eq method (codes "shutdown") then record { phase = ShutDown; task = Task.Shutdown }
    else record { phase = Running; task = Task.Request })
request_step ShutDown method = record { phase = ShutDown; task = Task.Fail InvalidRequest }

abbrev pub is_shut_down : Phase → Bool
is_shut_down Fresh = false
is_shut_down Running = false
is_shut_down ShutDown = true

-- the step for a notification other than `exit`
abbrev pub other_step : Phase → Step
other_step Fresh = record { phase = Fresh; task = Task.Ignore }
other_step Running = record { phase = Running; task = Task.Notification }
other_step ShutDown = record { phase = ShutDown; task = Task.Ignore }

abbrev pub notification_step : Phase → List ℕ → Step
notification_step phase method =
    if bytes_eq method (codes "exit") then record { phase = phase; task = Task.Exit (is_shut_down phase) }
    else other_step phase

-- the step for a message
abbrev pub step_of : Phase → Kind → Step
step_of phase (request id method) = request_step phase method
step_of phase (notification method) = notification_step phase method
step_of phase (response id) = record { phase = phase; task = Task.Ignore }
step_of phase invalid = record { phase = phase; task = Task.Fail InvalidRequest }
