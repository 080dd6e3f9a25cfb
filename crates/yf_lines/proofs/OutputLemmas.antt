-- Writes that follow one another, up to the one that fails.
use Rattle.std.proofs.Common.{◌≡◌, ℕ, ◌+◌, ◌-◌, ◌<◌, List, [], ◌∷◌, ◌++◌, length, take, drop, Bool, true, Option, sym, ap, ◌∙◌, subst, append_assoc, append-nil, take-append-drop, get_or, drop-cons, add-one}
use Rattle.std.specs.Prelude.{None, Some, Result, Ok, Err, IsErrAnd}
use Rattle.std.specs.Borrow.{Bor}
use Rattle.std.specs.Io.KnownBytes.{Appends, Keeps}
use Rattle.std.proofs.KnownBytes.{Appends-trans, Appends-kept}
use Rattle.std.proofs.lemmas.List.{take_rest}
use Rattle.yf_lines.specs.declared.fault.Fault.{Fault}
use Rattle.yf_lines.specs.declared.fault.Fault.TheVariants.{WriteFailed}
use Rattle.yf_lines.specs.Output.{Wrote, Broke, TextWritten, texts}

-- the part of the text before `rest` was appended, and no write has failed
pub record Progress (old new : Option (List ℕ)) (before after : Bool) (text rest : List ℕ) : Type 0 where
  pub written : List ℕ
  pub split : text ≡ written ++ rest
  pub appended : Appends old new written
  pub same : after ≡ before

pub progress_more : (old mid new : Option (List ℕ)) (before between after : Bool) (text rest : List ℕ) (count : ℕ)
    → Progress old mid before between text rest → Appends mid new (take count rest) → after ≡ between
    → Progress old new before after text (take (length rest - count) (drop count rest))
progress_more old mid new before between after text rest count p taken same = record {
  written = p.written ++ take count rest;
  split = p.split ∙ ap (λ l. p.written ++ l) (sym (take-append-drop count rest)) ∙ sym (append_assoc p.written (take count rest) (drop count rest))
      ∙ ap (λ l. (p.written ++ take count rest) ++ l) (sym (take_rest rest count));
  appended = Appends-trans old mid new p.written (take count rest) p.appended taken;
  same = same ∙ p.same;
}

pub progress_done : (old new : Option (List ℕ)) (before after : Bool) (text : List ℕ) → Progress old new before after text [] → Wrote old new before after text
progress_done old new before after text p = record {
  appended = subst (Appends old new) (sym (p.split ∙ append-nil p.written)) p.appended;
  same = p.same;
}

-- a write that fails after some progress
pub progress_broke : (old mid new : Option (List ℕ)) (before between after : Bool) (text rest : List ℕ)
    → Progress old mid before between text rest → Keeps mid new → after ≡ true → Broke old new after text
progress_broke old mid new before between after text rest p kept failed = record {
  failed = failed;
  front = p.written;
  rest = rest;
  split = p.split;
  appended = Appends-kept old mid new p.written p.appended kept;
}

-- a write that takes nothing changes nothing
pub Keeps-nothing : (old new : Option (List ℕ)) → Appends old new [] → Keeps old new
Keeps-nothing None new p = tt
Keeps-nothing (Some x) None p = absurd p
Keeps-nothing (Some x) (Some y) p = p ∙ append-nil x

-- ---- texts that are written one after another

-- the remaining texts are the next one and those after it
pub next_part : (old new : Option (List ℕ)) (before after : Bool) (text first : List ℕ) (parts : List (Bor (List ℕ))) (i : ℕ) (d : Bor (List ℕ))
    → i < length parts → first ≡ (get_or parts i d).now
    → Progress old new before after text (texts (drop i parts)) → Progress old new before after text (first ++ texts (drop (i + 1) parts))
next_part old new before after text first parts i d within is p =
    let cut : drop i parts ≡ get_or parts i d ∷ drop (i + 1) parts = rw add-one (drop-cons parts i d within) in
    let whole : texts (drop i parts) ≡ first ++ texts (drop (i + 1) parts) = ap texts cut ∙ ap (λ l. l ++ texts (drop (i + 1) parts)) (sym is) in
    subst (Progress old new before after text) whole p

pub progress_part : (old mid new : Option (List ℕ)) (before between after : Bool) (text first rest : List ℕ)
    → Progress old mid before between text (first ++ rest) → Wrote mid new between after first → Progress old new before after text rest
progress_part old mid new before between after text first rest p q = record {
  written = p.written ++ first;
  split = p.split ∙ sym (append_assoc p.written first rest);
  appended = Appends-trans old mid new p.written first p.appended q.appended;
  same = q.same ∙ p.same;
}

pub progress_part_broke : (old mid new : Option (List ℕ)) (before between after : Bool) (text first rest : List ℕ)
    → Progress old mid before between text (first ++ rest) → Broke mid new after first → Broke old new after text
progress_part_broke old mid new before between after text first rest p q = record {
  failed = q.failed;
  front = p.written ++ q.front;
  rest = q.rest ++ rest;
  split = p.split ∙ ap (λ l. p.written ++ l) (ap (λ l. l ++ rest) q.split ∙ append_assoc q.front q.rest rest) ∙ sym (append_assoc p.written q.front (q.rest ++ rest));
  appended = Appends-trans old mid new p.written q.front p.appended q.appended;
}

-- a refusal that is passed on
pub writes_refused : (old new : Option (List ℕ)) (before after : Bool) (text : List ℕ) (fault : Fault) (outcome : Result Unit Fault)
    → IsErrAnd outcome (λ e. e ≡ fault) → fault ≡ WriteFailed → Broke old new after text → TextWritten old new before after text outcome
writes_refused old new before after text fault (Ok done) gives same p = absurd gives
writes_refused old new before after text fault (Err e) gives same p = (gives ∙ same, p)

-- ---- one text written, and then another

pub broke_first : (old new : Option (List ℕ)) (after : Bool) (text more : List ℕ) → Broke old new after text → Broke old new after (text ++ more)
broke_first old new after text more p = record {
  failed = p.failed;
  front = p.front;
  rest = p.rest ++ more;
  split = ap (λ l. l ++ more) p.split ∙ append_assoc p.front p.rest more;
  appended = p.appended;
}

pub broke_second : (old mid new : Option (List ℕ)) (before between after : Bool) (text more : List ℕ)
    → Wrote old mid before between text → Broke mid new after more → Broke old new after (text ++ more)
broke_second old mid new before between after text more p q = record {
  failed = q.failed;
  front = text ++ q.front;
  rest = q.rest;
  split = ap (λ l. text ++ l) q.split ∙ sym (append_assoc text q.front q.rest);
  appended = Appends-trans old mid new text q.front p.appended q.appended;
}

pub writes_second : (old mid new : Option (List ℕ)) (before between after : Bool) (text more : List ℕ) (outcome : Result Unit Fault)
    → Wrote old mid before between text → TextWritten mid new between after more outcome → TextWritten old new before after (text ++ more) outcome
writes_second old mid new before between after text more (Ok done) p q = record {
  appended = Appends-trans old mid new text more p.appended q.appended;
  same = q.same ∙ p.same;
}
writes_second old mid new before between after text more (Err e) p q =
    (q.0, broke_second old mid new before between after text more p q.1)
