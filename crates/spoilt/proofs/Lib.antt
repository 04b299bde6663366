-- Test 14 by the calls that code makes, and by the first of its four that fails.
mod SpoiltLaws
