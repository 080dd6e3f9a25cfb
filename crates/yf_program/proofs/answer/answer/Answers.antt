use Rattle.std.proofs.Common.{inl, inr, refl}
use Rattle.yf_program.proofs.answer.answer.Goals as goal

pub returns-in-Ok : goal.returns-in-Ok
returns-in-Ok g c = record {
  run = c.do_request-status.result;
  streams = c.do_request-status.new.streams;
  follows = inl (c.in-Ok.request, c.in-Ok.ensures, c.do_request-status.ensures);
  out = c.written_out.ensures;
}

pub returns-in-Err : goal.returns-in-Err
returns-in-Err g c = record {
  run = c.answer_usage-status.result;
  streams = c.answer_usage-status.new.streams;
  follows = inr (c.in-Err.usage, c.in-Err.ensures, refl, (λ noted. refl), c.answer_usage-status.ensures);
  out = c.written_out-in-Err.ensures;
}
