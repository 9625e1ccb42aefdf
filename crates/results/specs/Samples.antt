-- Sample sheets and the lines that they give, from text to line, all in one statement.
use Rattle.std.specs.Prelude.{◌≡◌, ℕ, List, [], ◌++◌, codes}
use Rattle.pantry.specs.Format.{file_of}
use Rattle.results.specs.declared.setups.Setup.{Setup}
use Rattle.results.specs.Panel.{printed}

-- the tables, the allowance and the buffer of the program `result_panel`
abbrev pub panel_setup : Setup
panel_setup = record { tree = 2048; types = 2048; scope = 2048; cells = 2048; frames = 2048; allowance = 1000000; buffer = 65536 }

-- the line on a sheet, with no item file
abbrev pub line_on : List ℕ → List ℕ
line_on text = printed (file_of []) text panel_setup

-- a module that hides what a gram is
abbrev pub salt : List ℕ
salt = codes "module salt interface [opaque g zero : g more : (g -> g) mg : (g -> int)] " ++
    codes "body [type g = int zero = 0 more = proc (x : g) +(x,400) mg = proc (x : g) x] "

pub record Samples : Type 0 where
  pub plain_number : line_on (codes "33") ≡ codes "done int 33 steps 2\n"
  pub empty_text : line_on [] ≡ codes "refused 5 at 0 by grammar\n"
  pub unwanted_flag : line_on (codes "+(1,true)") ≡ codes "refused 11 at 4 by check\n"
  pub salt_shown : line_on (salt ++ codes "(from salt take mg (from salt take more from salt take zero))") ≡ codes "done int 400 steps 22\n"
  pub salt_hidden : line_on (salt ++ codes "+(from salt take zero,1)") ≡ codes "refused 11 at 154 by check\n"
  pub salt_kept : line_on (salt ++ codes "from salt take zero") ≡ codes "done from salt take g hidden steps 8\n"
  pub quotient : line_on (codes "/(-7,2)") ≡ codes "done int -3 steps 6\n"
  pub by_zero : line_on (codes "/(7,0)") ≡ codes "stop 27 steps 4\n"
  pub no_record : line_on (codes "(from pantry take kcal 5)") ≡ codes "stop 28 kcal 5 steps 4\n"
