use Rattle.std.proofs.Common.{[], refl}
use Rattle.cmh_client.specs.Clients.{closes, leaves}
use Rattle.cmh_client.specs.Lines.{none}
use Rattle.cmh_client.proofs.Talks.{announced_talk, answered_talk, heard_talk, same_talk, sent_talk, skipped_talk, told_talk, took_talk, watches_talk}
use Rattle.cmh_client.proofs.laws.talk_law.Goals as goal

pub returns-clause-fresh : goal.returns-clause-fresh
returns-clause-fresh g c = record { lines = none []; waits = refl; text = refl; told = refl }

pub returns-clause-heard : goal.returns-clause-heard
returns-clause-heard g c = heard_talk

pub returns-clause-took : goal.returns-clause-took
returns-clause-took g c = took_talk

pub returns-clause-skipped : goal.returns-clause-skipped
returns-clause-skipped g c = skipped_talk

pub returns-clause-answered : goal.returns-clause-answered
returns-clause-answered g c = answered_talk

pub returns-clause-told : goal.returns-clause-told
returns-clause-told g c = told_talk

pub returns-clause-announced : goal.returns-clause-announced
returns-clause-announced g c = announced_talk

pub returns-clause-sent : goal.returns-clause-sent
returns-clause-sent g c = sent_talk

pub returns-clause-watches : goal.returns-clause-watches
returns-clause-watches g c = watches_talk

pub returns-clause-left : goal.returns-clause-left
returns-clause-left g c client talk = same_talk client (leaves client) talk refl refl refl refl

pub returns-clause-closed : goal.returns-clause-closed
returns-clause-closed g c client talk = same_talk client (closes client) talk refl refl refl refl
