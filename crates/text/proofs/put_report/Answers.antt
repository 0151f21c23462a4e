-- `text::put_report` meets its contract. Assumes nothing.
use Rattle.lines.specs.Text.{header}
use Rattle.text.specs.Report.{lines_of}
use Rattle.text.proofs.put_report.Goals as goal

pub put-requires : goal.put-requires
put-requires g c = let asked = c.requires in g.met.P.Page.laws.front c.args.page.now header (lines_of asked.0) asked.3

pub put_lines-requires : goal.put_lines-requires
put_lines-requires g c =
    let asked = c.requires in
    (asked.0, asked.1, asked.2, g.met.P.Page.laws.behind c.args.page.now c.put.new.self header (lines_of asked.0) asked.3 c.put.ensures)

pub returns : goal.returns
returns g c = λ all h ordered.
    g.met.P.Page.laws.then c.args.page.now c.put.new.self c.put_lines.new.page header (lines_of all) c.put.ensures (c.put_lines.ensures all h ordered)
