use Rattle.std.proofs.Common.{refl}
use Rattle.yf_rules.specs.Runs.ByteStream.{stream_of}
use Rattle.yf_program.proofs.server.do_server.Goals as goal

pub returns : goal.returns
returns g c =
    let reader = stream_of g.I.Standard.Read.remaining g.I.Standard.Source.has_failed c.open_standard-reader.result in
    let left = stream_of g.I.Standard.Read.remaining g.I.Standard.Source.has_failed c.run_server.new.reader in (
      refl,
      c.open_standard-reader.ensures.opened,
      (
        reader,
        left,
        (
          c.open_standard-reader.ensures.bytes,
          c.open_standard-reader.ensures.works,
          λ told. c.open_standard-reader.ensures.reads told c.run_server.new.reader,
        ),
        (c.open_standard-reader.new.self, c.open_standard-reader.ensures.same, c.run_server.ensures),
      ),
    )
