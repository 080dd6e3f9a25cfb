-- Exactly the messages that want a response get one.
use Rattle.std.proofs.Common.{◌≡◌, ℕ, List, true, false, ⊎_elim, codes, refl}
use Rattle.std.specs.Prelude.{bytes_eq}
use Rattle.std.proofs.lemmas.Bool.{cases_Bool}
use Rattle.yf_json_rpc.specs.Messages.{Kind, request, notification, response, invalid}
use Rattle.yf_server.specs.declared.lifecycle.Phase.{Phase}
use Rattle.yf_server.specs.declared.lifecycle.Phase.TheVariants.{Fresh, Running, ShutDown}
use Rattle.yf_server.specs.Lifecycle.{notification_step, other_step, request_step, step_of}
use Rattle.yf_server.specs.Laws.{is_answer, wants_answer}

requests : (phase : Phase) (method : List ℕ) → is_answer (request_step phase method).task ≡ true
requests Fresh method =
    ⊎_elim (λ (e : bytes_eq method (codes "initialize") ≡ true). rw e refl)
    (λ (e : bytes_eq method (codes "initialize") ≡ false). rw e refl)
    (cases_Bool (bytes_eq method (codes "initialize")))
requests Running method =
    ⊎_elim (λ (e : bytes_eq method (codes "initialize") ≡ true). rw e refl)
    (λ (e : bytes_eq method (codes "initialize") ≡ false).
    ⊎_elim (λ (f : bytes_eq method (codes "shutdown") ≡ true). rw (e, f) refl)
    (λ (f : bytes_eq method (codes "shutdown") ≡ false). rw (e, f) refl)
    (cases_Bool (bytes_eq method (codes "shutdown"))))
    (cases_Bool (bytes_eq method (codes "initialize")))
requests ShutDown method = refl

others : (phase : Phase) → is_answer (other_step phase).task ≡ false
others Fresh = refl
others Running = refl
others ShutDown = refl

notifications : (phase : Phase) (method : List ℕ) → is_answer (notification_step phase method).task ≡ false
notifications phase method =
    ⊎_elim (λ (e : bytes_eq method (codes "exit") ≡ true). rw e refl)
    (λ (e : bytes_eq method (codes "exit") ≡ false). rw e (others phase))
    (cases_Bool (bytes_eq method (codes "exit")))

pub each_is_answered : (phase : Phase) (message : Kind)
    → is_answer (step_of phase message).task ≡ wants_answer message
each_is_answered phase (request id method) = requests phase method
each_is_answered phase (notification method) = notifications phase method
each_is_answered phase (response id) = refl
each_is_answered phase invalid = refl
