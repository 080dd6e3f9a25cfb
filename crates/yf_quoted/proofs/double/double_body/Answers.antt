use Rattle.std.proofs.Common.{◌++◌, ◌∙◌, ap, encode_utf8, arith}
use Rattle.std.proofs.lemmas.List.Elements.{All-nil}
use Rattle.std.specs.Str.{IsCharBoundary}
use Rattle.std.specs.String.{string_bytes}
use Rattle.yf_quoted.proofs.SimpleLemmas.{words_read}
use Rattle.yf_quoted.proofs.ReadLemmas.{nothing_yet, one_more, closed, no_gap_body, no_char_body, bad_places}
use Rattle.yf_quoted.proofs.double.double_body.Goals as goal

pub returns-in-None-clause-reads : goal.returns-in-None-clause-reads
returns-in-None-clause-reads c = no_gap_body (words_read c.chars.invariant.read c.words_end-word_end.ensures.reads c.in_ok-push_if_filled.ensures.written c.range.ensures.value) c.in-None.ensures.reads

pub returns-then-is_char_at-clause-reads : goal.returns-then-is_char_at-clause-reads
returns-then-is_char_at-clause-reads c =
    rw c.new.ensures (closed (words_read c.chars.invariant.read c.words_end-word_end.ensures.reads c.in_ok-push_if_filled.ensures.written c.range.ensures.value) c.in-Some.ensures.reads c.if-is_char_at.ensures.cases.char c.in_ok-push_gap.ensures)

pub returns-in-None-double_char-clause-reads : goal.returns-in-None-double_char-clause-reads
returns-in-None-double_char-clause-reads c =
    no_char_body (words_read c.chars.invariant.read c.words_end-word_end.ensures.reads c.in_ok-push_if_filled.ensures.written c.range.ensures.value) c.in-Some.ensures.reads c.if-is_char_at.ensures.cases c.in-None-double_char.ensures.reads

pub chars-init : goal.chars-init
chars-init c = record { read = nothing_yet c.args.at c.new-text.ensures.bytes c.new-bad.ensures; boundary = c.requires; order = omega arith; place = rw c.new-bad.ensures (All-nil (IsCharBoundary c.args.s.now)) }

pub chars-preserved : goal.chars-preserved
chars-preserved c =
    let value = c.in-Some-double_char.c.value in
    record {
      read = one_more value (words_read c.chars.invariant.read c.words_end-word_end.ensures.reads c.in_ok-push_if_filled.ensures.written c.range.ensures.value) c.in-Some.ensures.reads c.in-Some-double_char.ensures.reads c.in_ok-push_gap.ensures
          (c.in_ok-push-in-Some-double_char.ensures.bytes ∙ ap (λ w. string_bytes c.push_gap.new.text ++ encode_utf8 w) c.shown.ensures) c.in_ok-note_bad-in-Some-double_char.ensures;
      boundary = c.in-Some-double_char.ensures.boundary;
      order = omega (arith, c.chars.invariant.order, c.words_end-word_end.ensures.order, c.in-Some.ensures.order, c.in-Some-double_char.ensures.order);
      place = bad_places c.args.s.now value _ c.in_ok-note_bad-in-Some-double_char.ensures c.chars.invariant.place c.in-Some.ensures.boundary.1;
    }
