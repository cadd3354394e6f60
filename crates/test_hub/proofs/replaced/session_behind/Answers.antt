use Rattle.test_hub.proofs.Seen.{session_shown}
use Rattle.test_hub.proofs.replaced.session_behind.Goals as goal

-- src/replaced.rt:102:1
pub returns : goal.returns
returns g c = session_shown c.args.lens.now.seen c.in-Ok.receipt c.args.pass.now
    c.args.whats c.book.result.now c.args.peer c.session_of.result
    (c.a_look_shows_what_was_posted.ensures c.args.pass.now c.post.new.pass c.args.whats
    c.in-Ok.receipt c.args.lens.now.seen c.learn.new.self.seen c.in-Some.look.lens.now.seen
    c.book.result.now c.in-Ok.ensures c.learn.ensures c.in-Some.ensures.some.2 c.book.ensures)
    c.session_of.ensures
