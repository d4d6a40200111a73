-- Frames among news.
use Rattle.std.specs.Prelude.{Bool, true, false}
use Rattle.mav_nodes.specs.declared.news.News.{News}
use Rattle.mav_nodes.specs.declared.news.News.TheVariants.{Sent, Installed, Emptied, Dropped, Outcome, Command, Param}
use Rattle.mav_nodes.specs.declared.news.News.TheVariants.{Params, Reached, Captured, File}

abbrev pub is_frame : News → Bool
is_frame (Sent frame message) = true
is_frame (Installed kind count by) = false
is_frame (Emptied kind) = false
is_frame (Dropped answer) = false
is_frame (Outcome outcome) = false
is_frame (Command result) = false
is_frame (Param param) = false
is_frame (Params count) = false
is_frame (Reached item) = false
is_frame (Captured total) = false
is_frame (File end) = false
