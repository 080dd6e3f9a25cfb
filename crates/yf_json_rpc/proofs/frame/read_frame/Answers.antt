use Rattle.std.proofs.Common.{refl}
use Rattle.yf_json_rpc.proofs.FrameLemmas.{complete_from, found_from, refused_from, refused_long}
use Rattle.yf_json_rpc.proofs.frame.read_frame.Goals as goal

pub returns-in-Value-clause-complete : goal.returns-in-Value-clause-complete
returns-in-Value-clause-complete c =
    let section = rw c.in-Ok-Complete.field-0-is at c.in-Ok-Complete.ensures.complete in
    complete_from c.args.bytes.now c.parse_headers.new.headers c.in-Ok-Complete.start c.in-Ok-Complete.count
    c.in-Value.size c.args.limit c.content_at.result c.parse_headers.auto.headers section c.in-Value.ensures
    c.content_at.ensures

pub returns-in-Value-clause-found : goal.returns-in-Value-clause-found
returns-in-Value-clause-found c =
    let within = rw c.in-Ok-Complete.field-0-is at c.in-Ok-Complete.ensures.within in
    let finds = rw c.in-Ok-Complete.field-0-is at c.in-Ok-Complete.ensures.found in
    found_from c.args.bytes.now c.parse_headers.new.headers c.in-Ok-Complete.start c.in-Ok-Complete.count
    c.in-Value.size c.args.limit _ c.content_at.result refl within.len_fits finds c.in-Value.ensures
    c.content_at.ensures

pub returns-in-Value-clause-refused : goal.returns-in-Value-clause-refused
returns-in-Value-clause-refused c =
    let section = rw c.in-Ok-Complete.field-0-is at c.in-Ok-Complete.ensures.complete in
    refused_long c.args.bytes.now c.parse_headers.new.headers c.in-Ok-Complete.start c.in-Ok-Complete.count
    c.in-Value.size c.args.limit c.content_at.result section c.in-Value.ensures c.content_at.ensures

pub returns-in-Absent-clause-refused : goal.returns-in-Absent-clause-refused
returns-in-Absent-clause-refused c =
    let section = rw c.in-Ok-Complete.field-0-is at c.in-Ok-Complete.ensures.complete in
    refused_from c.args.bytes.now c.parse_headers.new.headers c.in-Ok-Complete.start c.in-Ok-Complete.count
    c.args.limit _ section c.in-Absent.ensures (λ k l e. cc)

pub returns-in-Invalid-clause-refused : goal.returns-in-Invalid-clause-refused
returns-in-Invalid-clause-refused c =
    let section = rw c.in-Ok-Complete.field-0-is at c.in-Ok-Complete.ensures.complete in
    refused_from c.args.bytes.now c.parse_headers.new.headers c.in-Ok-Complete.start c.in-Ok-Complete.count
    c.args.limit _ section c.in-Invalid.ensures (λ k l e. cc)
