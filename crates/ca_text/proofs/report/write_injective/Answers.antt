use Rattle.ca_text.proofs.report.write_injective.Goals as goal

pub returns-in-Window-clause-appended : goal.returns-in-Window-clause-appended
returns-in-Window-clause-appended c = rw c.in-Window.is c.push_line_with_numbers.ensures.appended
