-- A walk along a rank's posts, initialisations and starts.
use Rattle.std.specs.Prelude.{List}
use Rattle.coll_machine.specs.Common.{Entry, posts_of}
use Rattle.coll_report.specs.declared.posts.Posts.{Posts}
use Rattle.coll_report.specs.Views.{trace_seen}

-- those that it still has to come to
abbrev pub posts_left : Posts → List Entry
posts_left walk = posts_of walk.rank (trace_seen walk.rest.now)
