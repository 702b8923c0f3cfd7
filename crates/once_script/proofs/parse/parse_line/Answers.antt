use Rattle.std.proofs.Common.{◌≡◌, ◌∙◌, sym, codes}
use Rattle.std.proofs.lemmas.Bool.{false≢true}
use Rattle.std.proofs.lemmas.Bool.Decides.{Decides-eqb}
use Rattle.std.proofs.lemmas.Slice.Eq.{slice_eq-Decides}
use Rattle.once_script.proofs.LineLemmas.{reads_each}
use Rattle.once_script.proofs.parse.parse_line.Goals as goal

pub returns-in_default-clause-all : goal.returns-in_default-clause-all
returns-in_default-clause-all c =
    let text = c.args.text.now in
    let short = c.parse_short_line.ensures in
    let other = λ (e : text ≡ codes "replace"). false≢true (sym c.if-eq.false ∙ (slice_eq-Decides Decides-eqb text (codes "replace") c.eq.result c.eq.ensures).1 e) in
    reads_each c.parse_short_line.result text other c.in_default.ensures.cases
    record {
      look = short.look;
      take = short.take;
      parts = short.parts;
      make = short.make;
      drop = short.drop;
      write = short.write;
      poll = short.poll;
      go = short.go;
      run = short.run;
    }
