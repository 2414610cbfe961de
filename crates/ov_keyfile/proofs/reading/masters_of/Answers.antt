use Rattle.ov_keyfile.proofs.Parts.{key_file_of}
use Rattle.ov_keyfile.proofs.reading.masters_of.Goals as goal

pub returns-in-Some : goal.returns-in-Some
returns-in-Some c = key_file_of _ _ _ _ c.in-Some.ensures.found c.masters_of_lines.ensures.found c.masters_of_lines.ensures.none

pub returns-in-None : goal.returns-in-None
returns-in-None c h = c.in-None.ensures.none h.2.first h.2.second h.2.lines
