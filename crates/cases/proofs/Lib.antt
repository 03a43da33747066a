mod RecodingLaws
