use Rattle.std.proofs.Common.{ap, sym, codes, rules, arith}
use Rattle.words.specs.Spelling.{keyword_of}
use Rattle.words.proofs.Spells.{as-read}
use Rattle.words.proofs.keywords.keyword_of.Goals as goal

pub returns-in-false : goal.returns-in-false
returns-in-false c = ap keyword_of (sym (as-read c.args.name.now (codes "false") (omega arith) (search rules)))

pub returns-in-122 : goal.returns-in-122
returns-in-122 c = ap keyword_of (sym (as-read c.args.name.now (codes "zero?") (omega arith) (search rules)))

pub returns-in-108 : goal.returns-in-108
returns-in-108 c = ap keyword_of (sym (as-read c.args.name.now (codes "less?") (omega arith) (search rules)))

pub returns-in-module : goal.returns-in-module
returns-in-module c = ap keyword_of (sym (as-read c.args.name.now (codes "module") (omega arith) (search rules)))

pub returns-in-opaque : goal.returns-in-opaque
returns-in-opaque c = ap keyword_of (sym (as-read c.args.name.now (codes "opaque") (omega arith) (search rules)))

pub returns-in-letrec : goal.returns-in-letrec
returns-in-letrec c = ap keyword_of (sym (as-read c.args.name.now (codes "letrec") (omega arith) (search rules)))

pub returns-in-interface : goal.returns-in-interface
returns-in-interface c = ap keyword_of (sym (as-read c.args.name.now (codes "interface") (omega arith) (search rules)))

pub returns-in-transparent : goal.returns-in-transparent
returns-in-transparent c = ap keyword_of (sym (as-read c.args.name.now (codes "transparent") (omega arith) (search rules)))
