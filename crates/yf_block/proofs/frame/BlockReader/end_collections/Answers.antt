use Rattle.std.proofs.Common.{length, refl, sym, true≢false, arith}
use Rattle.std.proofs.lemmas.List.Elements.{All-same}
use Rattle.std.specs.Str.{IsCharBoundary}
use Rattle.yf_flow.proofs.Stack.TiedClose.{popped, none_left}
use Rattle.yf_block.proofs.Runs.CountedSteps.{fewer_left}
use Rattle.yf_block.proofs.Stack.TiedResume.{top_of, one_ended, all_ended}
use Rattle.yf_block.proofs.frame.BlockReader.end_collections.Goals as goal

pub frames-preserved : goal.frames-preserved
frames-preserved c = record {
  standing =
      let v = c.frames.invariant.standing in
      record {
        boundary = v.boundary;
        progress = record { floor = v.progress.floor; from = v.progress.from; halt = v.progress.halt };
        escapes = All-same (IsCharBoundary c.args.scope.text.now) _ _ c.in_ok-end_collection-in-EndsBefore.ensures.escapes v.escapes;
      };
  fewer = let l = fewer_left _ _ _ (length c.args.self.now.frames.items) c.in-Some.ensures.items c.frames.invariant.fewer in omega (arith, l);
  tied = λ d root before a.
      let r = c.frames.invariant.tied d root before a in
      let top = top_of r (popped _ _ _ c.in-Some.ensures.items) c.colons_without-self.ensures refl refl refl in
      let line = rw c.in-EndsBefore.is at (c.fit_of-fit.ensures.line (c.requires.entry r.outside)) in
      one_ended top line c.in_ok-end_collection-in-EndsBefore.ensures.events c.in_ok-end_collection-in-EndsBefore.ensures.comments c.in_ok-end_collection-in-EndsBefore.ensures.escapes;
}

pub returns-in_default-fit-clause-tied : goal.returns-in_default-fit-clause-tied
returns-in_default-fit-clause-tied c = λ d root before a.
    let r = c.frames.invariant.tied d root before a in
    record {
      top = top_of r (popped _ _ _ c.in-Some.ensures.items) c.colons_without-self.ensures refl refl refl;
      line = c.fit_of-fit.ensures.line (c.requires.entry r.outside);
      goes_on = c.in_default-fit.not-EndsBefore;
    }

pub returns-clause-tied : goal.returns-clause-tied
returns-clause-tied c = λ d root before a. all_ended (c.frames.invariant.tied d root before a) (none_left _ (λ l. true≢false (sym (c.in_default.ensures.variant.1 l))))

pub returns-in_default-fit-clause-fewer : goal.returns-in_default-fit-clause-fewer
returns-in_default-fit-clause-fewer c = fewer_left _ _ _ (length c.args.self.now.frames.items) c.in-Some.ensures.items c.frames.invariant.fewer

pub returns-in_default-fit-clause-standing : goal.returns-in_default-fit-clause-standing
returns-in_default-fit-clause-standing c =
    let v = c.frames.invariant.standing in
    record { boundary = v.boundary; progress = record { floor = v.progress.floor; from = v.progress.from; halt = v.progress.halt }; escapes = v.escapes }

pub fit_of-fit-requires : goal.fit_of-fit-requires
fit_of-fit-requires c = c.requires.place

pub returns-in_default-fit-clause-places : goal.returns-in_default-fit-clause-places
returns-in_default-fit-clause-places c = c.fit_of-fit.ensures.places

pub returns-clause-places : goal.returns-clause-places
returns-clause-places c = tt

pub returns-clause-fewer : goal.returns-clause-fewer
returns-clause-fewer c = tt

pub returns-clause-standing : goal.returns-clause-standing
returns-clause-standing c = let v = c.frames.invariant.standing in record { boundary = v.boundary; progress = v.progress; escapes = v.escapes }
