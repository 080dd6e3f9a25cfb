use Rattle.std.proofs.Common.{rules, pos, refl, arith, ◌≤◌, to_z-of_z, SFits, w32}
use Rattle.std.proofs.lemmas.List.Elements.{All-same}
use Rattle.std.proofs.lemmas.Result.{IfOk-weaker}
use Rattle.std.specs.Str.{IsCharBoundary}
use Rattle.yf_block.specs.InlineAnswers.{alias_after, empty_key_read}
use Rattle.yf_block.proofs.Ends.InlineLemmas.{alias_there, content_ends, empty_written}
use Rattle.yf_block.proofs.Ends.LookLemmas.{found_after}
use Rattle.yf_block.proofs.Runs.CountedSteps.{later, held_below}
use Rattle.yf_block.proofs.inline.read_inline.Goals as goal

pub returns-in_ok-push_scalar-in-Some-clause-answers : goal.returns-in_ok-push_scalar-in-Some-clause-answers
returns-in_ok-push_scalar-in-Some-clause-answers c = λ u l room r.
    let e = c.in_ok-push_scalar-in-Some.ensures in
    rw c.inline_end.ensures (empty_key_read c.in-Some.ensures.reads refl refl (empty_written c.in-Some.end e.pushed e.comments e.escapes))

pub returns-in_ok-push_scalar-in-Some-clause-counted : goal.returns-in_ok-push_scalar-in-Some-clause-counted
returns-in_ok-push_scalar-in-Some-clause-counted c = λ u total start l q.
    let k : start ≤ c.in-Some.end = omega (arith, l, c.in-Some.ensures.place.order) in
    rw c.inline_end.ensures (later _ c.args.depth total start c.in-Some.end k q)

pub returns-in-Some-inner-clause-answers : goal.returns-in-Some-inner-clause-answers
returns-in-Some-inner-clause-answers c = λ u l room r. alias_after c.in-None.ensures.reads c.in-Some-inner.is (alias_there _ c.if-is_char_at.ensures.cases.char)

pub returns-in-None-inner-clause-answers : goal.returns-in-None-inner-clause-answers
returns-in-None-inner-clause-answers c = λ u l room r. rw c.in-None-inner.is (c.read_alias.ensures.answers room (pos c.args.least))

pub returns-else-is_char_at-clause-answers : goal.returns-else-is_char_at-clause-answers
returns-else-is_char_at-clause-answers c = λ u l room r.
    let fits : SFits w32 c.flow_indentation.result = search rules in
    let e = rw (to_z-of_z fits, c.flow_indentation.ensures.same l) at (c.read_content.ensures.answers u refl room r) in
    IfOk-weaker _ _ _ (λ e f. content_ends room (pos c.args.least) c.args.depth c.args.lead.now c.args.part.now c.read_content.new.part e c.in-None.ensures.reads c.if-is_char_at.ensures.cases f) e

pub returns-in-None-inner-clause-counted : goal.returns-in-None-inner-clause-counted
returns-in-None-inner-clause-counted c = λ u total start l q.
    c.read_alias.ensures.counted c.args.scope.limit total (later _ c.args.depth total start c.args.at (held_below _ _ _ c.args.inner.now c.requires.properties l) q)

pub returns-else-is_char_at-clause-counted : goal.returns-else-is_char_at-clause-counted
returns-else-is_char_at-clause-counted c = λ u total start l q.
    c.read_content.ensures.counted u total (later _ c.args.depth total start c.args.at (held_below _ _ _ c.args.inner.now c.requires.properties l) q)

pub empty_key_end-requires : goal.empty_key_end-requires
empty_key_end-requires c = c.requires.properties

pub read_alias-requires : goal.read_alias-requires
read_alias-requires c = c.if-is_char_at.ensures.cases.char

pub read_content-requires : goal.read_content-requires
read_content-requires c = record { boundary = c.requires.boundary; escapes = c.requires.escapes }

pub returns-in_ok-push_scalar-in-Some-clause-escapes : goal.returns-in_ok-push_scalar-in-Some-clause-escapes
returns-in_ok-push_scalar-in-Some-clause-escapes c = All-same (IsCharBoundary c.args.scope.text.now) _ _ c.in_ok-push_scalar-in-Some.ensures.escapes c.requires.escapes

pub returns-in-Some-inner-clause-escapes : goal.returns-in-Some-inner-clause-escapes
returns-in-Some-inner-clause-escapes c = c.requires.escapes

pub returns-in-None-inner-clause-escapes : goal.returns-in-None-inner-clause-escapes
returns-in-None-inner-clause-escapes c =
    IfOk-weaker c.read_alias.result _ _ (λ _ e. All-same (IsCharBoundary c.args.scope.text.now) _ _ e c.requires.escapes) c.read_alias.ensures.escapes

pub returns-else-is_char_at-clause-escapes : goal.returns-else-is_char_at-clause-escapes
returns-else-is_char_at-clause-escapes c = c.read_content.ensures.escapes

pub returns-in_ok-push_scalar-in-Some-clause-found : goal.returns-in_ok-push_scalar-in-Some-clause-found
returns-in_ok-push_scalar-in-Some-clause-found c = rw c.inline_end.ensures c.in-Some.ensures.place

pub returns-in-Some-inner-clause-found : goal.returns-in-Some-inner-clause-found
returns-in-Some-inner-clause-found c = tt

pub returns-in-None-inner-clause-found : goal.returns-in-None-inner-clause-found
returns-in-None-inner-clause-found c = rw c.in-None-inner.is c.read_alias.ensures.found

pub returns-else-is_char_at-clause-found : goal.returns-else-is_char_at-clause-found
returns-else-is_char_at-clause-found c = IfOk-weaker c.read_content.result _ _ (λ e. found_after c.args.scope.text.now c.args.at c.args.inner.now e c.requires.properties) c.read_content.ensures.found
