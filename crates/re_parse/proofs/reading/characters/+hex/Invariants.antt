use Rattle.re_parse.proofs.reading.characters.+hex.Given as goal

abbrev pub decreases-hex : goal.decreases-hex
decreases-hex l = l.count
