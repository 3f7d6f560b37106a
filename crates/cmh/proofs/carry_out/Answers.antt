use Rattle.std.proofs.Common.{refl, rules, sym, true≢false}
use Rattle.cmh.proofs.Commands.{runs_audit, runs_cluster, runs_draw, runs_new_world, runs_play, runs_restore, runs_segments, runs_serve, runs_show, runs_site}
use Rattle.cmh.proofs.carry_out.Goals as goal

pub returns-in-Some : goal.returns-in-Some
returns-in-Some g c =
    let rows = c.in-Some.ensures.rows in
    runs_audit (c.in-Some.ensures.found.0 refl) c.audit.ensures.status refl (record {
      files = λ named none more asked. c.audit.ensures.audits (none _ rows) more (asked _ rows);
      some = λ named none. c.audit.ensures.audits_some (none _ rows);
      part = λ named. c.audit.ensures.audits_part;
    })

pub returns-in-Some-subcommand_matches : goal.returns-in-Some-subcommand_matches
returns-in-Some-subcommand_matches g c =
    let rows = c.in-Some-subcommand_matches.ensures.rows in
    runs_draw (c.in-Some-subcommand_matches.ensures.found.0 refl) c.draw_or_page.ensures.status refl (record {
      files = λ named none kind format first last epoch told how from to turned.
          c.draw_or_page.ensures.draws (none _ rows) kind format first last epoch (told _ rows) (how _ rows) (from _ rows) (to _ rows) (turned _ rows);
      some = λ named none. c.draw_or_page.ensures.draws_some (none _ rows);
      page = λ named asked. c.draw_or_page.ensures.pages (asked _ rows);
    })

pub returns-in-Some-subcommand_matches-2 : goal.returns-in-Some-subcommand_matches-2
returns-in-Some-subcommand_matches-2 g c =
    runs_show (c.in-Some-subcommand_matches-2.ensures.found.0 refl) c.show.ensures.status refl c.show.ensures.shows

pub returns-then-is_some : goal.returns-then-is_some
returns-then-is_some g c =
    runs_new_world (search rules) c.run_new_world.ensures.status refl c.run_new_world.ensures.ends

pub returns-in-Some-subcommand_matches-3 : goal.returns-in-Some-subcommand_matches-3
returns-in-Some-subcommand_matches-3 g c =
    let rows = c.in-Some-subcommand_matches-3.ensures.rows in
    runs_site (c.in-Some-subcommand_matches-3.ensures.found.0 refl) c.serve_site.ensures.status (record {
      this = λ named site number. c.serve_site.ensures.serves site number.0 (number.1 _ rows);
      some = λ named. c.serve_site.ensures.serves_some;
    })

pub returns-in-Some-subcommand_matches-4 : goal.returns-in-Some-subcommand_matches-4
returns-in-Some-subcommand_matches-4 g c =
    runs_serve (c.in-Some-subcommand_matches-4.ensures.found.0 refl) c.serve_clients.ensures.status

pub returns-in-Some-subcommand_matches-5 : goal.returns-in-Some-subcommand_matches-5
returns-in-Some-subcommand_matches-5 g c =
    let rows = c.in-Some-subcommand_matches-5.ensures.rows in
    runs_cluster (c.in-Some-subcommand_matches-5.ensures.found.0 refl) c.serve_cluster.ensures.status refl (record {
      ends = λ named unset. c.serve_cluster.ensures.serves (unset _ rows);
      strictly = λ named set. c.serve_cluster.ensures.serves_strictly (set _ rows);
    })

pub returns-in-Some-subcommand_matches-6 : goal.returns-in-Some-subcommand_matches-6
returns-in-Some-subcommand_matches-6 g c =
    runs_segments (c.in-Some-subcommand_matches-6.ensures.found.0 refl) c.segments.ensures.status
    (λ ok. (_, _, c.segments.ensures.lists ok))

pub returns-in-Some-subcommand_matches-7 : goal.returns-in-Some-subcommand_matches-7
returns-in-Some-subcommand_matches-7 g c =
    runs_restore (c.in-Some-subcommand_matches-7.ensures.found.0 refl) c.restore_into.ensures

pub returns : goal.returns
returns g c =
    runs_play (record {
      no_audit = λ n. true≢false (sym (c.in_default.ensures.found.1 n));
      no_site = λ n. true≢false (sym (c.in_default-subcommand_matches-3.ensures.found.1 n));
      no_cluster = λ n. true≢false (sym (c.in_default-subcommand_matches-5.ensures.found.1 n));
      no_serve = λ n. true≢false (sym (c.in_default-subcommand_matches-4.ensures.found.1 n));
      no_show = λ n. true≢false (sym (c.in_default-subcommand_matches-2.ensures.found.1 n));
      no_draw = λ n. true≢false (sym (c.in_default-subcommand_matches.ensures.found.1 n));
      no_new_world = λ n. search rules;
      no_segments = λ n. true≢false (sym (c.in_default-subcommand_matches-6.ensures.found.1 n));
      no_restore = λ n. true≢false (sym (c.in_default-subcommand_matches-7.ensures.found.1 n));
    }) c.play.ensures.status (record {
      plays = λ n. c.play.ensures.plays;
      to_page = λ n. c.play.ensures.to_page;
      alone = λ n. c.play.ensures.alone;
      edition3 = c.play.ensures.edition3;
      edition3_into = c.play.ensures.edition3_into;
    })
