-- What is known of a campaign once an entry that is ready joined the history.
use Rattle.std.proofs.Common.{◌≡◌, ◌≢◌, inl, inr, ◌||◌, ◌≤◌, ◌+◌, ℕ, true, false, List, ◌++◌, ◌∷◌, [], filter, length, map, get_or, length-append, subst, arith, refl, sym, ap, ◌∙◌, lit≤, not}
use Rattle.std.specs.Prelude.{All, slice_get}
use Rattle.std.specs.List.{enumerate_from}
use Rattle.std.specs.Option.{option_and_then}
use Rattle.std.proofs.lemmas.List.{length-map}
use Rattle.std.specs.Str.{bytes_eq}
use Rattle.std.proofs.lemmas.Bool.{and_parts}
use Rattle.decimal_rank.specs.declared.naming.DocId.{DocId}
use Rattle.decimal_rank.proofs.Lists.{map-map}
use Rattle.depth_pool.specs.declared.runs.RunId.{RunId}
use Rattle.lease_desk.specs.declared.leases.LeaseEnd.TheVariants.{Graded, Released}
use Rattle.trec_formats.specs.declared.Topic.{Topic}
use Rattle.rulebook.specs.declared.limits.TheConstants.{MAX_LINES}
use Rattle.rulebook.specs.declared.ask.Command.TheVariants as command
use Rattle.rulebook.specs.declared.entry.Entry.{Entry}
use Rattle.rulebook.specs.declared.reply.Reply.TheVariants as reply
use Rattle.rulebook.specs.declared.rules.Rules.{Rules}
use Rattle.rulebook.specs.declared.rules.Phase.{Phase}
use Rattle.rulebook.specs.declared.rules.Phase.TheVariants.{Collecting, Judging, Published}
use Rattle.rulebook.specs.Words.{Text, contains_text}
use Rattle.rulebook.specs.Answers.{moment_after}
use Rattle.rulebook.specs.Campaign.{History, Run, docnos, docs_on, is_withdrawn, level, level_in, line_count, need, needed_labels, numbered_runs, opens, phase, publishes, rules_of, run_in, runs, submitted_lines, topics, topics_in, withdraws}
use Rattle.rulebook.specs.Histories.Entries.{GivesLabel, GivesRuling, IsQuiet}
use Rattle.rulebook.specs.Judgements.Grades.{Label, label_in, ruling_in}
use Rattle.rulebook.specs.Judgements.LeaseEntries.{end_in}
use Rattle.rulebook.specs.Judgements.Leases.{Lease, lease_in, leases}
use Rattle.rulebook.specs.Spelling.{differ}
use Rattle.campaign_core.specs.Growth.{BeginsWith, lists_in}
use Rattle.campaign_core.specs.CampaignStates.{HasFewLabels, IsAssessmentOf, IsKnown, IsReady, IsUnjudged}
use Rattle.campaign_core.specs.Assessments.TopicLabelling.{IsLabelled}
use Rattle.campaign_core.specs.Assessments.DeskLeases.{is_known, topic_in}
use Rattle.campaign_core.specs.Numbering.Numbers.{doc_in, docs_in, names_of}
use Rattle.campaign_core.specs.Commands.Changes.{CarriesOut, phase_after}
use Rattle.campaign_core.specs.Assessments.RunScores.{list_in, unless_withdrawn}
use Rattle.campaign_core.specs.Numbering.Submissions.{AreSubmissions, live_numbers}
use Rattle.campaign_core.specs.Assessments.Topics.{LabelledTopic, kept_topic, kept_topic_of, labelled_of, topic_ids, unlabelled_topic}
use Rattle.campaign_core.specs.declared.campaign.Campaign.{Campaign}
use Rattle.assessment.specs.Changes.{Facts, after_change, facts}
use Rattle.assessment.specs.RunLists.{RankedLists, each_with_list, with_lists}
use Rattle.assessment.specs.TopicFacts.{TopicFacts, topic_with_label, with_ruling, without_list}
use Rattle.assessment.specs.declared.change.Change.{Change}
use Rattle.assessment.specs.declared.change.Change.TheVariants as change
use Rattle.lease_desk.specs.Leases.{with_end, with_grant}
use Rattle.rulebook.proofs.LegalHistories.LegalWalk.{legal_more}
use Rattle.rulebook.proofs.LegalHistories.PlainReplies.{addressed_plain}
use Rattle.campaign_core.proofs.Rulings.AcceptedCommands.{amend-told, grade-told, lease-told, listed-id, numbered-all, numbered-within, open-reply, publish-told, release-told, rule-told, some-same, submit-reply, topics-few, topics-plain, topics-reply, withdraw-told}
use Rattle.campaign_core.proofs.Entries.HistoryGrowth.{submitted_lines-push}
use Rattle.campaign_core.proofs.Entries.Judgements.GrowingNames.{labelled-grows, leased-grows}
use Rattle.campaign_core.proofs.Entries.Judgements.LeaseSteps.{leased-ended, leased-granted, unended-of}
use Rattle.campaign_core.proofs.Entries.Legality.{moment_after-push}
use Rattle.campaign_core.proofs.Entries.Runs.ListSteps.{lists-without, none-listed, run-lists}
use Rattle.campaign_core.proofs.Entries.Runs.RunNames.{known-fewer, known-more, known-stays, not-withdrawn}
use Rattle.campaign_core.proofs.Entries.Runs.LiveRuns.{none-withdrawn, number-place, numbered-fewer, numbered-more, withdrawn-push}
use Rattle.campaign_core.proofs.Numbers.TopicIds.{state-ids}
use Rattle.campaign_core.proofs.Entries.Runs.PoolSteps.{runs-added, runs-gone, topics-made}
use Rattle.campaign_core.proofs.Rulings.RunRulings.{taken-named}
use Rattle.campaign_core.proofs.Entries.Judgements.QuietEntries.{leased-none, leased-stays, no-lease, none-ended}
use Rattle.campaign_core.proofs.Entries.PhaseSteps.{first-topics, had-none, no-run, one-run, phase-opens, phase-publishes, phase-stays, rules-stay, same-topics}
use Rattle.campaign_core.proofs.Rulings.AcceptedEntries.{open-told, ruled_ok, some_lists, submit-told, topics-told, topics_known}
use Rattle.campaign_core.proofs.Entries.EntryLaws.{Laws}
use Rattle.campaign_core.proofs.Entries.Judgements.LabelledTopics.{all-few, fresh-after, fresh-labels, label-after, labels-none, new-few, new-grades, new-marks, ruling-after, same-labels, topics_of}
use Rattle.campaign_core.proofs.Entries.PlainEntries.{IsCarriedOut, IsPlain, ids-stay, keeps-all, marked-assessed, names-stay, one-longer, plain-by, plain-carried, quiet-assessed, same-levels, still-assessed}

-- the lines of all runs stay within the limit
pub lines-fit : (s : Campaign) (e : Entry) → IsKnown s → IsReady s e → s.lines + line_count (lists_in e.core.command) ≤ MAX_LINES
lines-fit s e kept_s ready = omega (arith, kept_s.lines_are, submitted_lines-push s.history.items e, ready.lines_fit)

without-labelled : (run : RunId) (ts : List TopicFacts) → map labelled_of (map (without_list run) ts) ≡ map labelled_of ts
without-labelled run [] = refl
without-labelled run (t ∷ ts) = ap (λ ls. labelled_of t ∷ ls) (without-labelled run ts)

each-labelled : (run : RunId) (lists : List (List DocId)) (ts : List TopicFacts) → map labelled_of (each_with_list run lists ts) ≡ map labelled_of ts
each-labelled run [] ts = refl
each-labelled run (docs ∷ lists) [] = refl
each-labelled run (docs ∷ lists) (t ∷ ts) = ap (λ ls. labelled_of t ∷ ls) (each-labelled run lists ts)

not-collecting : (p : Phase) → p ≡ Judging → p ≢ Collecting
not-collecting p judging collecting = let both : ◌≡◌ {A = Phase} Judging Collecting = sym judging ∙ collecting in cc both

not-published : (p : Phase) → p ≡ Published → p ≢ Collecting
not-published p published collecting = let both : ◌≡◌ {A = Phase} Published Collecting = sym published ∙ collecting in cc both

pub carried-out : (laws : Laws) (s : Campaign) (names : List Text) (e : Entry) (c : Change) → IsKnown s
    → IsReady s e → names ≡ names_of (s.history.items ++ e ∷ [])
    → CarriesOut s.history.items names (topics_of s) s.assessment.leases e c → IsCarriedOut s e c
carried-out laws s names e (change.Topics made) kept_s ready names_is (given, is, made_is, labelled_is, is_new) =
    let H = s.history.items in
    let J : History = H ++ e ∷ [] in
    let ruled = rw is at (ruled_ok H e ready.accepted) in
    let told = topics-told H given e.reply ruled in
    let none_run : runs J ≡ [] = no-run H e (ap run_in is) ∙ kept_s.topics_first told.1 in
    let rules_are = rules-stay H e kept_s.legal in
    let given_is : topics J ≡ given = first-topics H e given told.1 (ap topics_in is) in
    let ids_are : topic_ids J ≡ map (λ (t : Topic). t.id) given = ap (map (λ (t : Topic). t.id)) given_is in
    let plain = rw is at (addressed_plain e.core.caller e.core.number e.core.command e.core.moment ready.accepted.addressed) in
    let quiet : IsQuiet e = record { no_label = ap (λ c. label_in e.core.caller.name c e.reply) is; no_ruling = λ topic doc. ap (ruling_in topic doc) is } in
    let keeps = keeps-all laws s e kept_s quiet in
    let reply_is : e.reply ≡ reply.Topics (length given) = topics-reply H given e.reply ruled in
    let no_lease : leases J ≡ leases H = no-lease H e (ap (lease_in e.core.caller.name) reply_is) in
    let none = kept_s.unjudged told.0 in
    let labels_are = labels-none H e quiet.no_label in
    let new : List LabelledTopic = map (λ (topic : Topic). unlabelled_topic topic.id) given in
    let withdrawn_are = none-withdrawn H e (λ name. ap (withdraws name) is) in
    let none_numbered : numbered_runs J ≡ [] =
    ap (λ (rs : List Run). filter (λ (p : ℕ × Run). not (is_withdrawn J p.1.name)) (enumerate_from 0 rs)) none_run in
    record {
      phase_is = ap (λ c. phase_after c s.phase) is ∙ kept_s.phase_is ∙ sym (phase-stays H e (ap publishes is) (ap opens is));
      runs_fit = rw none_run (lit≤ tt);
      topics_first = λ _. none_run;
      runs_known = known-stays H J kept_s.runs_known (no-run H e (ap run_in is)) withdrawn_are;
      assessed = record {
        knows = record {
          topics_are = made_is ∙ topics-made J given (rules_of H) (sym rules_are) none_numbered
              ∙ ap (λ (ts : List Topic). map (kept_topic_of J) (map (λ (t : Topic). t.id) ts)) (sym given_is);
          labels_are = subst (All (IsLabelled J (names_of J))) (sym labelled_is)
              (fresh-labels s e new keeps labels_are no_lease none (new-marks given) (new-grades given));
          leased = leased-none H J s.assessment.leases none.no_lease no_lease (none-ended H e (λ n. ap (end_in n) is)) kept_s.assessed.knows.leased;
          topics_differ = ap differ ids_are ∙ topics-plain given plain;
          topics_fit = rw ids_are (omega (arith, length-map given (λ (t : Topic). t.id), topics-few H given e.reply ruled));
        };
        few = subst (All (HasFewLabels (length J))) (sym labelled_is) (new-few (length J) given);
        levels_are = is_new.levels_are ∙ ap (λ (r : Rules). map (λ (topic : Topic). level_in r topic.id) given) (sym rules_are)
            ∙ sym (map-map (level J) (λ (topic : Topic). topic.id) given) ∙ ap (map (level J)) (sym ids_are);
        lists_are = λ run on.
            ap (λ (lists : RankedLists). lists run on) is_new.empty
            ∙ sym (ap (λ (rs : List Run). list_in (names_of J) (topic_ids J) (option_and_then (unless_withdrawn J) (slice_get rs run.0)) on) none_run
            ∙ none-listed (names_of J) (topic_ids J) on);
      };
      unjudged = λ collecting. subst (IsUnjudged J) (sym labelled_is) (fresh-after s e new keeps labels_are no_lease none (new-marks given));
    }
carried-out laws s names e (change.Run run entered) kept_s ready names_is (name, lists, is, number, entered_is) =
    let H = s.history.items in
    let J : History = H ++ e ∷ [] in
    let ts = topics_of s in
    let ruled = rw is at (ruled_ok H e ready.accepted) in
    let told = submit-told H name lists e.reply ruled in
    let plain = rw is at (addressed_plain e.core.caller e.core.number e.core.command e.core.moment ready.accepted.addressed) in
    let new : Run = record { name = name; lists = lists } in
    let run_is : runs J ≡ runs H ++ new ∷ [] = one-run H e new (ap run_in is) in
    let withdrawn_are = none-withdrawn H e (λ other. ap (withdraws other) is) in
    let live : is_withdrawn H name ≡ false = not-withdrawn H name kept_s.runs_known told.0 in
    let rules_are = rules-stay H e kept_s.legal in
    let grown : BeginsWith (names_of H) (names_of J) = ready.docnos_grow in
    let same : topics J ≡ topics H = same-topics H e (ap topics_in is) in
    let ids_are = ids-stay H e (ap topics_in is) in
    let quiet : IsQuiet e = record { no_label = ap (λ c. label_in e.core.caller.name c e.reply) is; no_ruling = λ topic doc. ap (ruling_in topic doc) is } in
    let keeps = keeps-all laws s e kept_s quiet in
    let reply_is : e.reply ≡ reply.Submitted name (length lists) (line_count lists) = submit-reply H name lists e.reply ruled in
    let no_lease : leases J ≡ leases H = no-lease H e (ap (lease_in e.core.caller.name) reply_is) in
    let labelled_is = each-labelled run entered.items ts in
    let phases = phase-stays H e (ap publishes is) (ap opens is) in
    let listed : entered.items ≡ map (λ (t : TopicFacts). docs_in (names_of J) (docs_on lists t.id)) ts =
    entered_is ∙ ap (λ (names : List Text). map (λ (t : TopicFacts). docs_in names (docs_on lists t.id)) ts) names_is in
    record {
      phase_is = ap (λ c. phase_after c s.phase) is ∙ kept_s.phase_is ∙ sym (phase-stays H e (ap publishes is) (ap opens is));
      runs_fit = rw run_is (omega (arith, length-append (runs H) (new ∷ []), told.2));
      topics_first = λ none. absurd (topics_known H lists (had-none H e none) (some_lists name lists plain) told.1);
      runs_known = known-more H J kept_s.runs_known new run_is withdrawn_are told.0;
      assessed = record {
        knows = record {
          topics_are = ap (λ (ls : List (List DocId)). map kept_topic (each_with_list run ls ts)) entered_is
              ∙ runs-added H J name lists run names ts (topic_ids H) laws.goes_last rules_are grown
              (numbered-more H J new run_is withdrawn_are live) names_is number kept_s.assessed.knows.topics_are
              ∙ ap (λ (ts : List Topic). map (kept_topic_of J) (map (λ (t : Topic). t.id) ts)) (sym same);
          labels_are = subst (All (IsLabelled J (names_of J))) (sym labelled_is)
              (λ k d within. labelled-grows H J (get_or (map labelled_of ts) k d) keeps grown (kept_s.assessed.knows.labels_are k d within));
          leased = leased-grows laws.ends_there H J s.assessment.leases no_lease (none-ended H e (λ n. ap (end_in n) is)) ids_are grown
              kept_s.assessed.knows.leased;
          topics_differ = ap differ ids_are ∙ kept_s.assessed.knows.topics_differ;
          topics_fit = rw ids_are kept_s.assessed.knows.topics_fit;
        };
        few = subst (All (HasFewLabels (length J))) (sym labelled_is)
            (subst (λ n. All (HasFewLabels n) (map labelled_of ts)) (one-longer H e) (all-few (length H) (map labelled_of ts) kept_s.assessed.few));
        levels_are = same-levels s e kept_s ids_are;
        lists_are = λ other on.
            ap (λ (ls : List (List DocId)). with_lists run ls (facts s.assessment).topics.lists other on) listed
            ∙ run-lists H J new run ts (facts s.assessment).topics.lists number run_is withdrawn_are live grown
            (state-ids H ts (topic_ids H) kept_s.assessed.knows.topics_are) ids_are kept_s.assessed.lists_are other on;
      };
      unjudged = λ collecting.
          let none = kept_s.unjudged (sym phases ∙ collecting) in
          subst (IsUnjudged J) (sym labelled_is) (fresh-after s e (map labelled_of ts) keeps (labels-none H e quiet.no_label) no_lease none none.no_mark);
    }
carried-out laws s names e (change.Withdraw run) kept_s ready names_is (name, is, number) =
    let H = s.history.items in
    let J : History = H ++ e ∷ [] in
    let ts = topics_of s in
    let told = withdraw-told H e.core.caller name e.reply (rw is at (ruled_ok H e ready.accepted)) in
    let runs_are = no-run H e (ap run_in is) in
    let names_are = names-stay H e (ap (λ c. docnos (lists_in c)) is) in
    let ids_are = ids-stay H e (ap topics_in is) in
    let rules_are = rules-stay H e kept_s.legal in
    let phases = phase-stays H e (ap publishes is) (ap opens is) in
    let withdrawn_are : (other : Text) → is_withdrawn J other ≡ (is_withdrawn H other || bytes_eq name other) =
    λ other. withdrawn-push H e other ∙ ap (λ c. is_withdrawn H other || withdraws other c) is in
    let place = number-place H name run.0 number in
    let quiet : IsQuiet e = record { no_label = ap (λ c. label_in e.core.caller.name c e.reply) is; no_ruling = λ topic doc. ap (ruling_in topic doc) is } in
    let keeps = keeps-all laws s e kept_s quiet in
    let no_lease : leases J ≡ leases H = no-lease H e (ap (lease_in e.core.caller.name) told.reply_is) in
    let leased = leased-stays laws.ends_there H J s.assessment.leases no_lease (none-ended H e (λ n. ap (end_in n) is)) ids_are names_are
    kept_s.assessed.knows.leased in
    let labelled_is = without-labelled run ts in
    record {
      phase_is = ap (λ c. phase_after c s.phase) is ∙ kept_s.phase_is ∙ sym phases;
      runs_fit = rw runs_are kept_s.runs_fit;
      topics_first = λ none. runs_are ∙ kept_s.topics_first (had-none H e none);
      runs_known = known-fewer H J kept_s.runs_known name runs_are withdrawn_are (taken-named H name told.run told.found);
      assessed = record {
        knows = record {
          topics_are = runs-gone H J run ts (topic_ids H) rules_are names_are
              (numbered-fewer H J name run.0 runs_are withdrawn_are kept_s.runs_known.names_differ place) kept_s.assessed.knows.topics_are
              ∙ ap (map (kept_topic_of J)) (sym ids_are);
          labels_are = same-labels s e (map labelled_of (map (without_list run) ts)) kept_s keeps names_are labelled_is;
          leased = leased;
          topics_differ = ap differ ids_are ∙ kept_s.assessed.knows.topics_differ;
          topics_fit = rw ids_are kept_s.assessed.knows.topics_fit;
        };
        few = subst (All (HasFewLabels (length J))) (sym labelled_is)
            (subst (λ n. All (HasFewLabels n) (map labelled_of ts)) (one-longer H e) (all-few (length H) (map labelled_of ts) kept_s.assessed.few));
        levels_are = same-levels s e kept_s ids_are;
        lists_are = lists-without H J name run
            (facts s.assessment).topics.lists runs_are withdrawn_are kept_s.runs_known.names_differ place names_are ids_are kept_s.assessed.lists_are;
      };
      unjudged = λ collecting.
          let none = kept_s.unjudged (sym phases ∙ collecting) in
          subst (IsUnjudged J) (sym labelled_is) (fresh-after s e (map labelled_of ts) keeps (labels-none H e quiet.no_label) no_lease none none.no_mark);
    }
carried-out laws s names e change.Nothing kept_s ready names_is (inl is) =
    let H = s.history.items in
    let J : History = H ++ e ∷ [] in
    let ruled = rw is at (ruled_ok H e ready.accepted) in
    let plain : IsPlain e.core.command = plain-by e.core.command command.Open is refl refl refl (λ name. refl) in
    let opened = phase-opens H e (open-told H e.reply ruled) (ap publishes is) (ap opens is) in
    plain-carried s e change.Nothing kept_s plain (ap (λ c. phase_after c s.phase) is ∙ sym opened) (not-collecting (phase J) opened)
    (still-assessed laws s e command.Open kept_s plain is (open-reply H e.reply ruled) refl (λ topic doc. refl) (λ n. refl))
carried-out laws s names e change.Nothing kept_s ready names_is (inr is) =
    let H = s.history.items in
    let J : History = H ++ e ∷ [] in
    let ruled = rw is at (ruled_ok H e ready.accepted) in
    let plain : IsPlain e.core.command = plain-by e.core.command command.Publish is refl refl refl (λ name. refl) in
    let published = phase-publishes H e (ap publishes is) in
    plain-carried s e change.Nothing kept_s plain (ap (λ c. phase_after c s.phase) is ∙ sym published) (not-published (phase J) published)
    (still-assessed laws s e command.Publish kept_s plain is (publish-told H e.reply ruled) refl (λ topic doc. refl) (λ n. refl))
carried-out laws s names e (change.Lease grant) kept_s ready names_is w =
    let H = s.history.items in
    let J : History = H ++ e ∷ [] in
    let wanted : Text = w.command_is.0 in
    let is : e.core.command ≡ command.Lease wanted = w.command_is.1 in
    let told = lease-told H e.core.caller (moment_after H e.core.moment) wanted e.reply (rw is at (ruled_ok H e ready.accepted)) in
    let plain : IsPlain e.core.command = plain-by e.core.command (command.Lease wanted) is refl refl refl (λ name. refl) in
    let quiet : IsQuiet e = record { no_label = ap (λ c. label_in e.core.caller.name c e.reply) is; no_ruling = λ topic doc. ap (ruling_in topic doc) is } in
    let names_are = names-stay H e plain.no_docnos in
    let ids_are = ids-stay H e plain.no_topics in
    let phases = phase-stays H e (ap publishes is) (ap opens is) in
    let granted_lease : Lease =
    record {
      number = length (leases H) + 1;
      assessor = e.core.caller.name;
      topic = wanted;
      doc = told.doc;
      until = moment_after H e.core.moment
          + (rules_of H).term;
    } in
    let lease_is : w.lease ≡ granted_lease = some-same w.lease granted_lease (sym w.told ∙ ap (lease_in e.core.caller.name) told.reply_is) in
    let docnos_are : names ≡ names_of H = names_is ∙ names_are in
    let listed : contains_text (topic_ids H) w.lease.topic ≡ true =
    ap (λ (l : Lease). contains_text (topic_ids H) l.topic) lease_is ∙ sym (listed-id (topics H) wanted) ∙ told.listed in
    let leased = leased-granted laws.ends_there H e w.lease s.assessment.leases grant.topic grant.doc grant.until grant.assessor w.told
    (ap (λ (l : Lease). l.number) lease_is) (λ n. ap (end_in n) is) ids_are names_are
    w.topic_is (w.doc_is ∙ ap (λ names. doc_in names w.lease.doc) docnos_are) w.until_is w.assessor_is
    (ap (λ names. contains_text names w.lease.doc) (sym docnos_are) ∙ w.doc_named) listed kept_s.assessed.knows.leased in
    plain-carried s e (change.Lease grant) kept_s plain (ap (λ c. phase_after c s.phase) is ∙ kept_s.phase_is ∙ sym phases)
    (not-collecting (phase J) (phases ∙ told.judging))
    (quiet-assessed laws s e (with_grant s.assessment.leases grant.assessor grant.topic grant.doc grant.until) kept_s plain quiet leased)
carried-out laws s names e (change.Grade number label) kept_s ready names_is w =
    let H = s.history.items in
    let J : History = H ++ e ∷ [] in
    let is : e.core.command ≡ command.Grade number label.grade = w.command_is in
    let told = grade-told H e.core.caller (moment_after H e.core.moment) number label.grade e.reply (rw is at (ruled_ok H e ready.accepted)) in
    let l : Lease = told.0.lease in
    let lease_is : w.lease ≡ l = some-same w.lease l (sym w.found ∙ told.0.found) in
    let no_lease : leases J ≡ leases H = no-lease H e (ap (lease_in e.core.caller.name) told.1) in
    let plain : IsPlain e.core.command = plain-by e.core.command (command.Grade number label.grade) is refl refl refl (λ name. refl) in
    let names_are = names-stay H e plain.no_docnos in
    let ids_are = ids-stay H e plain.no_topics in
    let phases = phase-stays H e (ap publishes is) (ap opens is) in
    let rules_are = rules-stay H e kept_s.legal in
    let given : Label = record { topic = l.topic; doc = l.doc; assessor = e.core.caller.name; grade = label.grade } in
    let gives : GivesLabel e given =
    record {
      label_is = ap (λ c. label_in e.core.caller.name c e.reply) is
          ∙ ap (label_in e.core.caller.name (command.Grade number label.grade)) told.1;
      no_ruling = λ topic doc. ap (ruling_in topic doc) is;
    } in
    let joined = laws.labels_join H e given rules_are gives in
    let needs : (id : Text) → need J id ≡ need H id = λ id. ap (λ (r : Rules). needed_labels r id) rules_are in
    let docnos_are : names ≡ names_of H = names_is ∙ names_are in
    let known = numbered-all (is_known H (names_of H)) H number l kept_s.assessed.knows.leased.are_known told.0.found in
    let both = and_parts (contains_text (names_of H) l.doc) (contains_text (topic_ids H) l.topic) known in
    let topic_is : label.topic ≡ topic_in (topic_ids H) l.topic = w.topic_is ∙ ap (λ (l : Lease). topic_in (topic_ids H) l.topic) lease_is in
    let doc_is : label.doc ≡ doc_in (names_of H) l.doc =
    w.doc_is ∙ ap (λ (l : Lease). doc_in names l.doc) lease_is ∙ ap (λ names. doc_in names l.doc) docnos_are in
    let labels = label-after laws s e given label.topic label.doc label.assessor kept_s joined needs names_are topic_is doc_is w.assessor_is both.0 both.1 in
    let without_end = unended-of laws.ends_there laws.lease_entries H kept_s.legal number l told.0.found told.0.unended in
    let leased = leased-ended laws.ends_there H e number Graded (λ n. ap (end_in n) is) without_end ids_are names_are s.assessment.leases no_lease
    (numbered-within H number l told.0.found) kept_s.assessed.knows.leased in
    plain-carried s e (change.Grade number label) kept_s plain (ap (λ c. phase_after c s.phase) is ∙ kept_s.phase_is ∙ sym phases)
    (not-collecting (phase J) (phases ∙ told.0.judging))
    (marked-assessed s e label.topic (topic_with_label label.doc label.assessor label.grade)
    (with_end s.assessment.leases number Graded) kept_s plain (λ t. refl) labels leased)
carried-out laws s names e (change.Amend label) kept_s ready names_is (topic, doc, is, assessor_is, w) =
    let H = s.history.items in
    let J : History = H ++ e ∷ [] in
    let told = amend-told H e.core.caller topic doc label.grade e.reply (rw is at (ruled_ok H e ready.accepted)) in
    let no_lease : leases J ≡ leases H = no-lease H e (ap (lease_in e.core.caller.name) told.reply_is) in
    let plain : IsPlain e.core.command = plain-by e.core.command (command.Amend topic doc label.grade) is refl refl refl (λ name. refl) in
    let names_are = names-stay H e plain.no_docnos in
    let ids_are = ids-stay H e plain.no_topics in
    let phases = phase-stays H e (ap publishes is) (ap opens is) in
    let rules_are = rules-stay H e kept_s.legal in
    let given : Label = record { topic = topic; doc = doc; assessor = e.core.caller.name; grade = label.grade } in
    let gives : GivesLabel e given =
    record { label_is = ap (λ c. label_in e.core.caller.name c e.reply) is; no_ruling = λ topic doc. ap (ruling_in topic doc) is } in
    let docnos_are : names ≡ names_of H = names_is ∙ names_are in
    let labels =
    label-after laws s e given label.topic label.doc label.assessor kept_s (laws.labels_join H e given rules_are gives)
    (λ id. ap (λ (r : Rules). needed_labels r id) rules_are) names_are
    w.number_is (w.at_is ∙ ap (λ names. doc_in names doc) docnos_are) assessor_is
    (ap (λ names. contains_text names doc) (sym docnos_are) ∙ w.doc_named) w.listed in
    let leased = leased-stays laws.ends_there H J s.assessment.leases no_lease (none-ended H e (λ n. ap (end_in n) is)) ids_are names_are
    kept_s.assessed.knows.leased in
    plain-carried s e (change.Amend label) kept_s plain (ap (λ c. phase_after c s.phase) is ∙ kept_s.phase_is ∙ sym phases)
    (not-collecting (phase J) (phases ∙ told.judging))
    (marked-assessed s e label.topic (topic_with_label label.doc label.assessor label.grade) s.assessment.leases kept_s plain (λ t. refl) labels leased)
carried-out laws s names e (change.Rule ruling) kept_s ready names_is (topic, doc, is, w) =
    let H = s.history.items in
    let J : History = H ++ e ∷ [] in
    let told = rule-told H topic doc ruling.grade e.reply (rw is at (ruled_ok H e ready.accepted)) in
    let no_lease : leases J ≡ leases H = no-lease H e (ap (lease_in e.core.caller.name) told.reply_is) in
    let plain : IsPlain e.core.command = plain-by e.core.command (command.Rule topic doc ruling.grade) is refl refl refl (λ name. refl) in
    let names_are = names-stay H e plain.no_docnos in
    let ids_are = ids-stay H e plain.no_topics in
    let phases = phase-stays H e (ap publishes is) (ap opens is) in
    let rules_are = rules-stay H e kept_s.legal in
    let gives : GivesRuling e topic doc ruling.grade = record { no_label = ap (λ c. label_in e.core.caller.name c e.reply) is; command_is = is } in
    let docnos_are : names ≡ names_of H = names_is ∙ names_are in
    let labels =
    ruling-after laws s e topic doc ruling.topic ruling.doc ruling.grade kept_s (laws.rulings_join H e topic doc ruling.grade rules_are gives told.has_label)
    (λ id. ap (λ (r : Rules). needed_labels r id) rules_are) names_are
    w.number_is (w.at_is ∙ ap (λ names. doc_in names doc) docnos_are)
    (ap (λ names. contains_text names doc) (sym docnos_are) ∙ w.doc_named) w.listed told.has_label in
    let leased = leased-stays laws.ends_there H J s.assessment.leases no_lease (none-ended H e (λ n. ap (end_in n) is)) ids_are names_are
    kept_s.assessed.knows.leased in
    plain-carried s e (change.Rule ruling) kept_s plain (ap (λ c. phase_after c s.phase) is ∙ kept_s.phase_is ∙ sym phases)
    (not-collecting (phase J) (phases ∙ told.judging))
    (marked-assessed s e ruling.topic (with_ruling ruling.doc ruling.grade) s.assessment.leases kept_s plain (λ t. refl) labels leased)
carried-out laws s names e (change.Release number) kept_s ready names_is (is, unended) =
    let H = s.history.items in
    let J : History = H ++ e ∷ [] in
    let told = release-told H e.core.caller (moment_after H e.core.moment) number e.reply (rw is at (ruled_ok H e ready.accepted)) in
    let plain : IsPlain e.core.command = plain-by e.core.command (command.Release number) is refl refl refl (λ name. refl) in
    let quiet : IsQuiet e = record { no_label = ap (λ c. label_in e.core.caller.name c e.reply) is; no_ruling = λ topic doc. ap (ruling_in topic doc) is } in
    let no_lease : leases J ≡ leases H = no-lease H e (ap (lease_in e.core.caller.name) told.1) in
    let phases = phase-stays H e (ap publishes is) (ap opens is) in
    let without_end = unended-of laws.ends_there laws.lease_entries H kept_s.legal number told.0.lease told.0.found told.0.unended in
    let leased = leased-ended laws.ends_there H e number Released (λ n. ap (end_in n) is) without_end (ids-stay H e plain.no_topics)
    (names-stay H e plain.no_docnos) s.assessment.leases no_lease (numbered-within H number told.0.lease told.0.found) kept_s.assessed.knows.leased in
    plain-carried s e (change.Release number) kept_s plain (ap (λ c. phase_after c s.phase) is ∙ kept_s.phase_is ∙ sym phases)
    (not-collecting (phase J) (phases ∙ told.0.judging))
    (quiet-assessed laws s e (with_end s.assessment.leases number Released) kept_s plain quiet leased)

pub known-after : (s later : Campaign) (e : Entry) (c : Change) → IsKnown s → IsReady s e → IsCarriedOut s e c
    → later.history.items ≡ s.history.items ++ e ∷ []
    → later.phase ≡ phase_after e.core.command s.phase
    → later.lines ≡ s.lines + line_count (lists_in e.core.command)
    → facts later.assessment ≡ after_change c (facts s.assessment)
    → AreSubmissions (s.history.items ++ e ∷ []) later.submissions.items
    → later.live.items ≡ live_numbers (s.history.items ++ e ∷ [])
    → IsKnown later
known-after s later e c kept_s ready done grown phase_is lines_is facts_are submissions_are live_are =
    let J : History = s.history.items ++ e ∷ [] in
    record {
      legal = rw grown (legal_more s.history.items e kept_s.legal ready.accepted);
      phase_is = phase_is ∙ done.phase_is ∙ ap phase (sym grown);
      moment_fits = rw (grown, moment_after-push s.history.items e 0) (omega (arith, ready.moment_fits));
      entries_fit = rw grown (omega (arith, length-append s.history.items (e ∷ []), ready.entries_fit));
      lines_fit = rw grown ready.lines_fit;
      docnos_fit = rw grown ready.docnos_fit;
      runs_fit = rw grown done.runs_fit;
      topics_first = rw grown done.topics_first;
      submissions_are = subst (λ (J : History). AreSubmissions J later.submissions.items) (sym grown) submissions_are;
      live_are = live_are ∙ ap live_numbers (sym grown);
      runs_known = rw grown done.runs_known;
      lines_are = lines_is ∙ ap (λ n. n + line_count (lists_in e.core.command)) kept_s.lines_are
          ∙ sym (submitted_lines-push s.history.items e) ∙ ap submitted_lines (sym grown);
      assessed = subst (λ (J : History). IsAssessmentOf J (facts later.assessment)) (sym grown) (subst (IsAssessmentOf J) (sym facts_are) done.assessed);
      unjudged = subst (λ (J : History). phase J ≡ Collecting → IsUnjudged J (map labelled_of (topics_of later))) (sym grown)
          (λ collecting. subst (λ (known : Facts). IsUnjudged J (map labelled_of known.topics.topics)) (sym facts_are) (done.unjudged collecting));
    }
